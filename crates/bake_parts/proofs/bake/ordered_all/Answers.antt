use Rattle.std.proofs.Common.{ap, ◌∙◌, arith}
use Rattle.cell_order.specs.Orders.{ordered}
use Rattle.bake_parts.proofs.Ordering.{ordered_more}
use Rattle.bake_parts.proofs.bake.ordered_all.Goals as goal

pub loop-number-preserved : goal.loop-number-preserved
loop-number-preserved c =
    rw c.in_ok-push.ensures.items
    (ordered_more c.args.order c.args.labels.now _ c.loop-number.number _ (omega (arith, c.loop-number-test.true, c.count-number-end.ensures))
    (c.in_ok-of.ensures ∙ ap (ordered c.args.order) c.cells.ensures) c.loop-number.invariant)
