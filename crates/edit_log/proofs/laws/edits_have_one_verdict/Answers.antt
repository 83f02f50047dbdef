use Rattle.edit_log.proofs.EditVerdicts.{edits_have_one_verdict}
use Rattle.edit_log.proofs.laws.edits_have_one_verdict.Goals as goal

pub returns : goal.returns
returns c = edits_have_one_verdict
