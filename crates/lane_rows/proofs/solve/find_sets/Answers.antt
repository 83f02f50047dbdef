use Rattle.lane_rows.proofs.Sweeping.{swept_none, swept_on}
use Rattle.lane_rows.proofs.solve.find_sets.Goals as goal

pub loop-init : goal.loop-init
loop-init c = swept_none _ _ _ c.requires.range

pub loop-preserved : goal.loop-preserved
loop-preserved c = swept_on _ _ _ _ _ c.loop.invariant c.settle.ensures

pub returns : goal.returns
returns c = swept_on _ _ _ _ _ c.loop.invariant c.sweep.ensures
