use Rattle.std.proofs.Common.{refl, arith}
use Rattle.versions.proofs.OneRowComps.{line_database}
use Rattle.path_image.specs.Images.{image_of, home_word, table_of}
use Rattle.path_image.proofs.laws.three_cells_are_these_words.Goals as goal

pub returns : goal.returns
unfolding image_of home_word table_of
returns c = record { of = record { searchable = omega arith; database = line_database }; is = refl }
