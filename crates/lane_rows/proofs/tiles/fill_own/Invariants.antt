use Rattle.std.proofs.Common.{◌≡◌, ◌≢◌, ℕ, ◌<◌, length, get_or}
use Rattle.lane_rows.specs.Equations.{lane_of}
use Rattle.lane_rows.proofs.tiles.fill_own.Given as goal

abbrev pub invariant-loop-lane : goal.invariant-loop-lane
invariant-loop-lane l = record {
  rows : length l.sets ≡ length l.fn.sets;
  own : (lane : ℕ) → lane < l.lane → lane_of l.sets lane (get_or l.sources lane 0) ≡ 255;
  others : (lane place : ℕ) → place ≢ get_or l.sources lane 0 → lane_of l.sets lane place ≡ lane_of l.fn.sets lane place;
}
