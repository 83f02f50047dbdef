use Rattle.edit_log.proofs.EditedMaps.{edits_go_on}
use Rattle.edit_log.proofs.laws.edits_go_on.Goals as goal

pub returns : goal.returns
returns c = edits_go_on
