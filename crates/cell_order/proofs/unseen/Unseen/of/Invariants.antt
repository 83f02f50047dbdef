use Rattle.cell_order.proofs.Boxing.{IsMarking}
use Rattle.cell_order.proofs.unseen.Unseen.of.Given as goal

abbrev pub invariant-loop-cell : goal.invariant-loop-cell
invariant-loop-cell l = IsMarking l.cells l.cell-index l.initial.unseen l.unseen
