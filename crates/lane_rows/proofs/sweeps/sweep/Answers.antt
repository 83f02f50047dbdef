use Rattle.lane_rows.proofs.Sweeping.{swept_none, swept_on}
use Rattle.lane_rows.proofs.sweeps.sweep.Goals as goal

pub loop-place-init : goal.loop-place-init
loop-place-init c = swept_none _ _ _ c.requires.range

pub loop-place-preserved : goal.loop-place-preserved
loop-place-preserved c = swept_on _ _ _ _ _ c.loop-place.invariant c.visit_waiting-did_wait.ensures
