use Rattle.std.proofs.Common.{◌≡◌}
use Rattle.kept_rows.proofs.targets.Targets.add.Given as goal

abbrev pub invariant-loop-lane : goal.invariant-loop-lane
invariant-loop-lane l = l.self.count ≡ l.fn.self.count
