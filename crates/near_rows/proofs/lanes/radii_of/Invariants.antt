use Rattle.near_rows.proofs.NearLanes.{AreNearest}
use Rattle.near_rows.proofs.lanes.radii_of.Given as goal

abbrev pub invariant-loop-place : goal.invariant-loop-place
invariant-loop-place l = AreNearest l.sources.columns l.sources.rows l.cells l.sets l.radii l.place
