use Rattle.components.proofs.Touching.{IsTouching}
use Rattle.components.proofs.edits.touched_by.Given as goal

abbrev pub invariant-loop-cell : goal.invariant-loop-cell
invariant-loop-cell l = IsTouching l.grid l.labels l.cells l.cell-index l.touched.items
