use Rattle.build_pool.proofs.Boards.{HasSides}
use Rattle.build_pool.proofs.board.sides_of.Given as goal

abbrev pub invariant-loop-cell : goal.invariant-loop-cell
invariant-loop-cell l = HasSides l.cells l.sides.width l.sides.height l.cell-index
