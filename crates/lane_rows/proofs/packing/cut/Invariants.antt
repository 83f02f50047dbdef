use Rattle.lane_rows.proofs.LanePacking.{IsCutting}
use Rattle.lane_rows.proofs.packing.cut.Given as goal

abbrev pub invariant-loop-lane : goal.invariant-loop-lane
invariant-loop-lane l = IsCutting l.fn.words l.words l.fn.starts l.starts l.common l.kept l.place l.lane
