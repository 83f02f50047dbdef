use Rattle.std.proofs.Common.{◌≡◌, ℕ, ◌-◌, ◌<◌, ◌≤◌, get_or}
use Rattle.kept_rows.proofs.gates.repeats_set.Given as goal

abbrev pub invariant-loop-lane : goal.invariant-loop-lane
invariant-loop-lane l = (k : ℕ) → l.count ≤ k → k < l.lane → get_or l.sets k 0 ≡ get_or l.sets (l.count - 1) 0
