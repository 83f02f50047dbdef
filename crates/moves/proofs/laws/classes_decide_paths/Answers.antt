use Rattle.moves.proofs.SamePaths as paths
use Rattle.moves.proofs.laws.classes_decide_paths.Goals as goal

pub returns : goal.returns
returns c = paths.classes_decide_paths
