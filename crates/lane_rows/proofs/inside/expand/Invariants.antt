use Rattle.std.proofs.Common.{◌≡◌, ℕ, ◌+◌, ◌%◌, ◌^◌, ◌<◌, ◌≤◌, length, slice_index}
use Rattle.lane_rows.specs.Equations.{lane_of}
use Rattle.lane_rows.specs.Classes.{class_in}
use Rattle.lane_rows.proofs.inside.expand.Given as goal

abbrev pub invariant-loop-place : goal.invariant-loop-place
invariant-loop-place l = record {
  key_rows : length l.keys ≡ length l.fn.keys;
  set_rows : length l.sets ≡ length l.fn.keys;
  keys : (lane at : ℕ) → lane < 16 → at < l.place → lane_of l.keys lane at ≡ (lane_of l.offsets lane (class_in l.codes at) + slice_index l.costs at) % 2 ^ 32;
  range : (lane at : ℕ) → lane < 16 → at < l.place → lane_of l.keys lane at ≤ slice_index l.highest lane;
  sets : (lane at : ℕ) → lane < 16 → at < l.place → lane_of l.sets lane at ≡ lane_of l.class_sets lane (class_in l.codes at);
}
