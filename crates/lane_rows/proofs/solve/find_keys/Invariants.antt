use Rattle.std.proofs.Common.{◌≡◌, ℕ, ◌<◌, length}
use Rattle.lane_rows.specs.Equations.{lane_of, AreInRange}
use Rattle.lane_rows.proofs.solve.find_keys.Given as goal

abbrev pub invariant-loop : goal.invariant-loop
invariant-loop l = record {
  range : AreInRange l.keys;
  last : (lane : ℕ) → lane < 16 → lane_of l.keys lane (length l.near) ≡ lane_of l.initial.keys lane (length l.near);
}
