use Rattle.std.proofs.Common.{◌≡◌, ◌-◌, length, subst, slice_index, arith}
use Rattle.lane_rows.specs.Equations.{far}
use Rattle.lane_rows.proofs.Solving.{classes_settled}
use Rattle.lane_rows.proofs.solve.take_classes.Goals as goal

pub returns-clause-settled : goal.returns-clause-settled
returns-clause-settled c = λ _.
    let rows = c.requires.rows.key_rows in
    let costs = c.requires.costs in
    classes_settled c.args.scene.now.near.now c.args.scene.now.sources c.args.scene.now.costs.now c.args.codes.now c.mark_borders-borders.new.waits c.wake.new.waits
    c.offsets.result.now c.sets.result.now c.expand-is_in_range.new.keys c.expand-is_in_range.new.sets (length c.args.keys.now - 1)
    c.requires.near (omega (arith, rows)) (omega (arith, rows, c.expand-is_in_range.auto.keys)) c.expand-is_in_range.ensures.rows
    (c.expand-is_in_range.ensures.range c.if-not-is_in_range.false) c.expand-is_in_range.ensures.last
    (c.are_costs.ensures.small c.if-not-are_costs.false)
    (subst (λ n. slice_index c.args.scene.now.costs.now n ≡ far) (omega (arith, rows, costs)) (c.are_costs.ensures.last c.if-not-are_costs.false))
    c.mark_borders-borders.ensures c.wake.ensures.still c.wake.ensures.marked
