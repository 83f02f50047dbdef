use Rattle.edit_log.proofs.EditedMaps.{edits_keep_sides}
use Rattle.edit_log.proofs.laws.edits_keep_sides.Goals as goal

pub returns : goal.returns
returns c = edits_keep_sides
