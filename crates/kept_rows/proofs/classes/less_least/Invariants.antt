use Rattle.std.proofs.Common.{◌≡◌, ℕ, ◌-◌, ◌<◌, get_or, length}
use Rattle.kept_rows.proofs.classes.less_least.Given as goal

abbrev pub invariant-loop-lane : goal.invariant-loop-lane
invariant-loop-lane l = (length l.less ≡ 16) × ((k : ℕ) → k < l.lane → get_or l.less k 0 ≡ get_or l.keys k 0 - l.least)
