use Rattle.near_rows.specs.Gathering.{AreSomeNear}
use Rattle.near_rows.proofs.gathering.put_lanes.Given as goal

abbrev pub invariant-loop-lane : goal.invariant-loop-lane
invariant-loop-lane l = AreSomeNear l.cells l.near
