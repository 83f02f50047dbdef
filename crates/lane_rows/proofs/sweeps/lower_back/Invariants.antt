use Rattle.std.proofs.Common.{◌≡◌, ℕ, ◌<◌, length}
use Rattle.lane_rows.specs.Equations.{lane_of, AreInRange}
use Rattle.lane_rows.proofs.sweeps.lower_back.Given as goal

abbrev pub invariant-loop-place : goal.invariant-loop-place
invariant-loop-place l = record {
  range : AreInRange l.keys;
  last : (lane : ℕ) → lane < 16 → lane_of l.keys lane (length l.near) ≡ lane_of l.initial.keys lane (length l.near);
}
