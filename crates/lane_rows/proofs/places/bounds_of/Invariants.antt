use Rattle.lane_rows.proofs.Indexing.{HasBounds}
use Rattle.lane_rows.proofs.places.bounds_of.Given as goal

abbrev pub invariant-loop-cell : goal.invariant-loop-cell
invariant-loop-cell l = HasBounds l.cells l.cell-index l.bounds.left l.bounds.right l.bounds.top l.bounds.bottom
