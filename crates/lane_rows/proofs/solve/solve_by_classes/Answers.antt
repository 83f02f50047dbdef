use Rattle.std.proofs.Common.{arith}
use Rattle.lane_rows.proofs.Solving.{solved_on}
use Rattle.lane_rows.proofs.Sweeping.{swept_on}
use Rattle.lane_rows.proofs.solve.solve_by_classes.Goals as goal

pub returns : goal.returns
returns c = λ all.
    solved_on _ _ _ _ (omega arith) c.take_classes.ensures.last (c.take_classes.ensures.settled c.if-not-take_classes.false)
    (swept_on _ _ _ _ _ c.sweep.ensures c.repair.ensures) (c.none_waits.ensures c.if-not-none_waits.false) (c.are_all_below.ensures all)
