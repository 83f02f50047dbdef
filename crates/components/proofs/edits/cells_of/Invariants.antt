use Rattle.components.proofs.Ranking.{AreCellsBelow}
use Rattle.components.proofs.edits.cells_of.Given as goal

abbrev pub invariant-loop-i : goal.invariant-loop-i
invariant-loop-i l = AreCellsBelow l.ranks l.i l.cells.items
