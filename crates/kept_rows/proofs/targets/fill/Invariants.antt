use Rattle.std.proofs.Common.{◌<◌}
use Rattle.kept_rows.proofs.targets.fill.Given as goal

abbrev pub invariant-loop-lane : goal.invariant-loop-lane
invariant-loop-lane l = l.targets.count < 16
