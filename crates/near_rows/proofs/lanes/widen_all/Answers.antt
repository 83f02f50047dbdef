use Rattle.std.proofs.Common.{arith}
use Rattle.near_rows.proofs.NearLanes.{widening_more, widening_all}
use Rattle.near_rows.proofs.lanes.widen_all.Goals as goal

pub loop-place-preserved : goal.loop-place-preserved
loop-place-preserved c = widening_more _ _ _ _ _ _ _ c.loop-place.invariant _ c.loop-place-test.true c.requires.sets c.widened.ensures

pub returns-clause-widened : goal.returns-clause-widened
returns-clause-widened c = widening_all _ _ _ _ _ _ _ c.loop-place.invariant (omega (arith, c.loop-place-test.false, c.loop-place.auto.place-end)) c.requires.sets
