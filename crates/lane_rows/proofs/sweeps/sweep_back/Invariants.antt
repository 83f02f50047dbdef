use Rattle.lane_rows.specs.Visits.{IsSwept, lanes_at}
use Rattle.lane_rows.proofs.sweeps.sweep_back.Given as goal

abbrev pub invariant-loop-place : goal.invariant-loop-place
invariant-loop-place l = IsSwept l.near l.sources (lanes_at l.initial.keys l.initial.sets l.initial.waits) (lanes_at l.keys l.sets l.waits)
