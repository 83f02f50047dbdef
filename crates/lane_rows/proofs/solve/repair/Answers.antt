use Rattle.lane_rows.proofs.Sweeping.{swept_none, swept_on}
use Rattle.lane_rows.proofs.solve.repair.Goals as goal

pub loop-init : goal.loop-init
loop-init c = swept_none _ _ _ c.requires.range

pub loop-preserved : goal.loop-preserved
loop-preserved c =
    swept_on _ _ _ _ _ c.loop.invariant (swept_on _ _ _ _ _ c.sweep_back.ensures c.sweep.ensures)
