use Rattle.std.proofs.Common.{◌≡◌, ℕ, ◌<◌, ◌≤◌, length, get_or}
use Rattle.kept_rows.specs.Gaps.{past}
use Rattle.kept_rows.proofs.pair.moved.Given as goal

abbrev pub invariant-loop-lane : goal.invariant-loop-lane
invariant-loop-lane l = record {
  whole : length l.places ≡ 16;
  done : (k : ℕ) → k < l.lane → get_or l.places k 0 ≡ past l.gaps (get_or l.sources k 0);
  last : (k : ℕ) → l.lane ≤ k → k < 16 → get_or l.places k 0 ≡ get_or l.gaps 0 0;
}
