-- The laws are lemmas of their own.
use Rattle.moves.proofs.LawsOfPaths as laws
use Rattle.moves.proofs.laws.laws_of_paths.Goals as goal

pub returns : goal.returns
returns c = laws.laws_of_paths
