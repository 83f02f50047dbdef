use Rattle.row_edit.specs.Rooms.{KeepsKnown}
use Rattle.row_edit.proofs.each.push_known.Given as goal

abbrev pub invariant-loop-one : goal.invariant-loop-one
invariant-loop-one l = KeepsKnown l.edit l.known l.next.items
