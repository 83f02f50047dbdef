use Rattle.std.proofs.Common.{◌≡◌, ℕ, ◌<◌, get_or}
use Rattle.lane_rows.proofs.sweeps.mark.Given as goal

abbrev pub invariant-loop-to : goal.invariant-loop-to
invariant-loop-to l = record {
  still : (other : ℕ) → get_or l.waits other 0 ≡ 0 → get_or l.initial.waits other 0 ≡ 0;
  marked : (k : ℕ) → k < l.to-index → get_or l.waits (get_or l.edges k 0) 0 ≡ 0 → ⊥;
}
