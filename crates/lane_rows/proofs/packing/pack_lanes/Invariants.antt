use Rattle.lane_rows.proofs.LanePacking.{IsPacking}
use Rattle.lane_rows.proofs.packing.pack_lanes.Given as goal

abbrev pub invariant-loop-place : goal.invariant-loop-place
invariant-loop-place l = IsPacking l.sets l.words l.starts l.common l.place
