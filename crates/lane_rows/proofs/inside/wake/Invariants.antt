use Rattle.std.proofs.Common.{◌≡◌, ℕ, ◌<◌, length, get_or}
use Rattle.lane_rows.proofs.inside.wake.Given as goal

abbrev pub invariant-loop-lane : goal.invariant-loop-lane
invariant-loop-lane l = record {
  rows : length l.waits ≡ length l.fn.waits;
  still : (other : ℕ) → get_or l.waits other 0 ≡ 0 → get_or l.fn.waits other 0 ≡ 0;
  marked : (lane : ℕ) → lane < l.lane → get_or l.waits (get_or l.sources lane 0) 0 ≡ 0 → ⊥;
}
