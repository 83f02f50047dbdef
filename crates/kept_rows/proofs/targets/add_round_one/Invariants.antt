use Rattle.std.proofs.Common.{◌<◌}
use Rattle.kept_rows.proofs.targets.add_round_one.Given as goal

abbrev pub invariant-loop-place : goal.invariant-loop-place
invariant-loop-place l = l.targets.count < 16
