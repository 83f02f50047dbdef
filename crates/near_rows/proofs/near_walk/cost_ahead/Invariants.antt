use Rattle.near_rows.proofs.Measuring.{IsMeasured}
use Rattle.near_rows.proofs.near_walk.cost_ahead.Given as goal

abbrev pub invariant-loop : goal.invariant-loop
invariant-loop l = IsMeasured l.fn.walk l.walk l.cost l.counter
