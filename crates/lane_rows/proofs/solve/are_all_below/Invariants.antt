use Rattle.std.proofs.Common.{ℕ, ◌<◌, ◌≤◌, slice_index}
use Rattle.lane_rows.specs.Equations.{lane_of}
use Rattle.lane_rows.proofs.solve.are_all_below.Given as goal

abbrev pub invariant-loop-row : goal.invariant-loop-row
invariant-loop-row l = record {
  highest : (lane at : ℕ) → lane < 16 → at < l.row-index → lane_of l.keys lane at ≤ slice_index l.highest lane;
}
