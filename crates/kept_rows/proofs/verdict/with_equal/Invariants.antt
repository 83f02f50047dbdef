use Rattle.std.proofs.Common.{◌≡◌, ℕ, ◌+◌, ◌-◌, ◌<◌, ◌≤◌, ◌⊎◌, get_or}
use Rattle.std.specs.Prelude.{IsBitSet}
use Rattle.kept_rows.proofs.verdict.with_equal.Given as goal

abbrev pub invariant-loop-lane : goal.invariant-loop-lane
invariant-loop-lane l = (k : ℕ) → IsBitSet l.all k → IsBitSet l.bits k ⊎ ((l.from ≤ k) × (k < l.from + l.lane) × (get_or l.a (k - l.from) 0 ≡ get_or l.b (k - l.from) 0))
