use Rattle.std.proofs.Common.{◌+◌, subst, arith}
use Rattle.bake_parts.specs.Plans.{AreOrdered, Planned}
use Rattle.bake_parts.proofs.Heading.{breaks_first, few_all, large_breaks, sizes_first}
use Rattle.bake_parts.proofs.Joining.{on_err_any}
use Rattle.bake_parts.proofs.bake.Bake.image_size.Goals as goal

pub tables_size-requires : goal.tables_size-requires
tables_size-requires c = rw c.as_slice-components.ensures.value (few_all _ _ _ c.self.invariant.0)

pub returns-in_err-tables-clause-none : goal.returns-in_err-tables-clause-none
returns-in_err-tables-clause-none c =
    let inv = subst (λ (plan : Planned). AreOrdered plan.on plan.order c.self.inside.components.items) c.self.view_is c.self.invariant.0 in
    on_err_any _ _ (breaks_first _ _ _ inv c.args.parts.now (rw c.as_slice-components.ensures.value at c.in_err-tables.ensures.none))

pub returns-then-size-from-clause-none : goal.returns-then-size-from-clause-none
returns-then-size-from-clause-none c =
    let inv = subst (λ (plan : Planned). AreOrdered plan.on plan.order c.self.inside.components.items) c.self.view_is c.self.invariant.0 in
    let sizes = sizes_first _ _ _ inv c.args.parts.now c.tables_at.result c.in_ok-tables.tables c.tables_at.ensures.size (rw c.as_slice-components.ensures.value at c.in_ok-tables.ensures.size) in
    let over = c.if-size-from.true in
    let from = c.from.ensures in
    large_breaks _ _ _ inv c.args.parts.now (c.tables_at.result + c.in_ok-tables.tables) (omega arith) sizes

pub returns-clause-size : goal.returns-clause-size
returns-clause-size c =
    let inv = subst (λ (plan : Planned). AreOrdered plan.on plan.order c.self.inside.components.items) c.self.view_is c.self.invariant.0 in
    rw c.from.ensures (sizes_first _ _ _ inv c.args.parts.now c.tables_at.result c.in_ok-tables.tables c.tables_at.ensures.size (rw c.as_slice-components.ensures.value at c.in_ok-tables.ensures.size))
