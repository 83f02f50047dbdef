use Rattle.std.proofs.Common.{◌<◌}
use Rattle.kept_rows.proofs.targets.add_next.Given as goal

abbrev pub invariant-loop-number : goal.invariant-loop-number
invariant-loop-number l = l.targets.count < 16
