use Rattle.near_rows.proofs.WidenedSets.{AreWidenedTo}
use Rattle.near_rows.proofs.widening.widen.Given as goal

abbrev pub invariant-loop-place : goal.invariant-loop-place
invariant-loop-place l = AreWidenedTo l.source l.radius l.cells l.fn.sets l.sets l.place
