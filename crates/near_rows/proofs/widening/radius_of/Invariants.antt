use Rattle.near_rows.proofs.Radii.{IsNearest}
use Rattle.near_rows.proofs.widening.radius_of.Given as goal

abbrev pub invariant-loop-place : goal.invariant-loop-place
invariant-loop-place l = IsNearest l.source l.cells l.sets l.place l.least
