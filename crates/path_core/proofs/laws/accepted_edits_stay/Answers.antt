use Rattle.path_core.proofs.Growing.{accepted_edits_stay}
use Rattle.path_core.proofs.laws.accepted_edits_stay.Goals as goal

pub returns : goal.returns
returns c = accepted_edits_stay
