use Rattle.std.proofs.Common.{◌∙◌, arith}
use Rattle.lane_rows.proofs.Solving.{far_at_start, solved}
use Rattle.lane_rows.proofs.Sweeping.{swept_on}
use Rattle.lane_rows.proofs.solve.solve.Goals as goal

pub returns-then-none_waits : goal.returns-then-none_waits
returns-then-none_waits c = λ all.
    solved _ _ _ _ _ (omega arith) (c.fill-3.ensures.after (λ y e. e)) (omega arith)
    (λ lane l. c.find_keys.ensures.last lane l ∙ far_at_start _ _ _ lane (omega arith) l (c.fill.ensures.after (λ y e. e)))
    (swept_on _ _ _ _ _ c.find_sets.ensures c.repair.ensures) (c.none_waits.ensures c.if-none_waits.true) (c.are_all_below.ensures all)
