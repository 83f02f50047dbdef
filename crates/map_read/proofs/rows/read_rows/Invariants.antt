use Rattle.map_read.proofs.RowLemmas.{AreReadTo}
use Rattle.map_read.proofs.rows.read_rows.Given as goal

abbrev pub invariant-loop-y : goal.invariant-loop-y
invariant-loop-y l = AreReadTo l.sides.width l.sides.height l.y l.free l.initial.lines l.lines l.cells
