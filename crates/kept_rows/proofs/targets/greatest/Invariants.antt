use Rattle.std.proofs.Common.{◌<◌}
use Rattle.kept_rows.proofs.targets.greatest.Given as goal

abbrev pub invariant-loop-index : goal.invariant-loop-index
invariant-loop-index l = l.best < 64
