use Rattle.kept_rows.specs.Targets.{IsGrown}
use Rattle.kept_rows.proofs.ball.grow.Given as goal

abbrev pub invariant-loop-lane : goal.invariant-loop-lane
invariant-loop-lane l = IsGrown l.fn.ball.items l.targets.sources l.lane l.ball.items
