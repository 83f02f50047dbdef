use Rattle.std.proofs.Common.{refl}
use Rattle.bake_parts.specs.Parts.{part_of}
use Rattle.bake_parts.proofs.laws.last_two_are_these_words.Goals as goal

pub returns : goal.returns
unfolding part_of
returns c = refl
