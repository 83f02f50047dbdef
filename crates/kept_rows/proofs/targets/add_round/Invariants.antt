use Rattle.std.proofs.Common.{◌<◌}
use Rattle.kept_rows.proofs.targets.add_round.Given as goal

abbrev pub invariant-loop-gap : goal.invariant-loop-gap
invariant-loop-gap l = l.targets.count < 16
