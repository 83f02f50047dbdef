use Rattle.std.proofs.Common.{◌≡◌, ℕ, ◌<◌, slice_index}
use Rattle.lane_rows.specs.Equations.{lane_of}
use Rattle.lane_rows.proofs.tiles.gather.Given as goal

abbrev pub invariant-loop-place : goal.invariant-loop-place
invariant-loop-place l = (at : ℕ) → at < l.place → slice_index l.row at ≡ lane_of l.sets l.lane at
