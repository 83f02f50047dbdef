use Rattle.path_core.proofs.Bounds.{legal_histories_are_bounded}
use Rattle.path_core.proofs.laws.legal_histories_are_bounded.Goals as goal

pub returns : goal.returns
returns c = legal_histories_are_bounded
