use Rattle.std.proofs.Common.{◌≡◌, ℕ, ◌<◌, ◌≤◌, length, get_or}
use Rattle.kept_rows.proofs.pair.gap_lanes.Given as goal

abbrev pub invariant-loop-lane : goal.invariant-loop-lane
invariant-loop-lane l = record {
  whole : length l.lanes ≡ 16;
  done : (k : ℕ) → k < l.lane → k < length l.gaps → get_or l.lanes k 0 ≡ get_or l.gaps k 0;
  past : (k : ℕ) → k < 16 → length l.gaps ≤ k → get_or l.lanes k 0 ≡ get_or l.gaps 0 0;
  left : (k : ℕ) → l.lane ≤ k → k < 16 → get_or l.lanes k 0 ≡ get_or l.gaps 0 0;
}
