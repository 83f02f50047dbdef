use Rattle.path_core.proofs.LegalHistories.{legal_step_by_step}
use Rattle.path_core.proofs.laws.legal_step_by_step.Goals as goal

pub returns : goal.returns
returns c = legal_step_by_step
