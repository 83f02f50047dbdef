use Rattle.moves.proofs.Rectangles.{HasEdges}
use Rattle.moves.proofs.bounds.edges_of.Given as goal

abbrev pub invariant-loop-cell : goal.invariant-loop-cell
invariant-loop-cell l = HasEdges l.cells l.cell-index l.edges.left l.edges.right l.edges.top l.edges.bottom
