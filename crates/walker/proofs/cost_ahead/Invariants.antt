use Rattle.walker.proofs.Measuring.{IsMeasured}
use Rattle.walker.proofs.cost_ahead.Given as goal

abbrev pub invariant-loop : goal.invariant-loop
invariant-loop l = IsMeasured l.fn.walk l.walk l.cost l.counter
