use Rattle.row_check.specs.Marking.{AreNear}
use Rattle.row_check.proofs.near.neighbours.Given as goal

abbrev pub invariant-loop-cell : goal.invariant-loop-cell
invariant-loop-cell l = AreNear l.cells l.near.items l.cell-index
