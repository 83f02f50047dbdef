use Rattle.std.proofs.Common.{refl}
use Rattle.path_file.specs.Files.{number_bytes}
use Rattle.path_file.proofs.laws.file_of_three_cells.Goals as goal

pub returns : goal.returns
unfolding number_bytes
returns c = refl
