use Rattle.edit_log.proofs.Cutting.{IsTailTo}
use Rattle.edit_log.proofs.list.EditList.tail.Given as goal

abbrev pub invariant-loop-next : goal.invariant-loop-next
invariant-loop-next l = IsTailTo l.self.edits l.place l.next l.list
