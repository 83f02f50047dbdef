use Rattle.lane_rows.specs.Tables.{IsIndexed}
use Rattle.lane_rows.proofs.places.number.Given as goal

abbrev pub invariant-loop-place : goal.invariant-loop-place
invariant-loop-place l = IsIndexed l.left l.top l.width l.places l.cells l.place
