use Rattle.std.proofs.Common.{◌<◌}
use Rattle.kept_rows.proofs.targets.next_targets.Given as goal

abbrev pub invariant-loop : goal.invariant-loop
invariant-loop l = l.targets.count < 16
