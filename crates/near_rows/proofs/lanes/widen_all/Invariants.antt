use Rattle.near_rows.proofs.NearLanes.{AreWidening}
use Rattle.near_rows.proofs.lanes.widen_all.Given as goal

abbrev pub invariant-loop-place : goal.invariant-loop-place
invariant-loop-place l = AreWidening l.sources.columns l.sources.rows l.cells l.sets l.radii l.wide l.place
