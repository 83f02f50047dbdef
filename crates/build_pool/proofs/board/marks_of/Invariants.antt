use Rattle.build_pool.proofs.Boards.{AreMarked}
use Rattle.build_pool.proofs.board.marks_of.Given as goal

abbrev pub invariant-loop-cell : goal.invariant-loop-cell
invariant-loop-cell l = AreMarked l.cells l.width l.height l.marks.items l.cell-index
