use Rattle.lane_rows.proofs.Taking.{IsTaking}
use Rattle.lane_rows.proofs.tiles.take_nearest.Given as goal

abbrev pub invariant-loop-place : goal.invariant-loop-place
invariant-loop-place l = IsTaking l.fn.wanted l.wanted l.sources l.count
