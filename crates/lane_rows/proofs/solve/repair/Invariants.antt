use Rattle.lane_rows.specs.Visits.{IsSwept, lanes_at}
use Rattle.lane_rows.proofs.solve.repair.Given as goal

abbrev pub invariant-loop : goal.invariant-loop
invariant-loop l = IsSwept l.near l.sources (lanes_at l.initial.keys l.initial.sets l.initial.waits) (lanes_at l.keys l.sets l.waits)
