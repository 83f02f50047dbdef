use Rattle.std.proofs.Common.{ℕ, ◌<◌, get_or}
use Rattle.kept_rows.proofs.targets.are_inside.Given as goal

abbrev pub invariant-loop-lane : goal.invariant-loop-lane
invariant-loop-lane l = (k : ℕ) → k < l.lane → get_or l.sources k 0 < l.count
