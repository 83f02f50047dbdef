use Rattle.std.proofs.Common.{refl}
use Rattle.follow_node.proofs.Heard.{says}
use Rattle.follow_node.proofs.hearing.go_on.Goals as goal

pub returns-else-has_edits-clause-fault : goal.returns-else-has_edits-clause-fault
returns-else-has_edits-clause-fault c = says _ _ _ _ (c.if-has_edits.ensures.other refl) c.fault_in.ensures
