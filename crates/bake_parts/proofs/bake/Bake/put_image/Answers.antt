use Rattle.std.proofs.Common.{subst, ◌∙◌}
use Rattle.bake_parts.specs.Plans.{AreOrdered, Planned}
use Rattle.bake_parts.specs.Homes.{AreHomes}
use Rattle.bake_parts.specs.Joins.{PutsWords}
use Rattle.bake_parts.proofs.Heading.{breaks_first, few_all, has_all, image_put, small_first}
use Rattle.bake_parts.proofs.Joining.{on_err_any}
use Rattle.bake_parts.proofs.bake.Bake.put_image.Goals as goal

pub put_starts-requires-clause-many : goal.put_starts-requires-clause-many
put_starts-requires-clause-many c = rw c.as_slice-components.ensures.value (few_all _ _ _ c.self.invariant.0)

pub returns-in_err-tables-clause-none : goal.returns-in_err-tables-clause-none
returns-in_err-tables-clause-none c =
    let inv = subst (λ (plan : Planned). AreOrdered plan.on plan.order c.self.inside.components.items) c.self.view_is c.self.invariant.0 in
    on_err_any _ _ (breaks_first _ _ _ inv c.args.parts.now (rw c.as_slice-components.ensures.value at c.in_err-tables.ensures.none))

pub put_tables-requires-clause-many : goal.put_tables-requires-clause-many
put_tables-requires-clause-many c = rw c.as_slice-components.ensures.value (few_all _ _ _ c.self.invariant.0)

pub returns-in_err-put_tables-clause-none : goal.returns-in_err-put_tables-clause-none
returns-in_err-put_tables-clause-none c =
    let inv = subst (λ (plan : Planned). AreOrdered plan.on plan.order c.self.inside.components.items) c.self.view_is c.self.invariant.0 in
    on_err_any _ _ (breaks_first _ _ _ inv c.args.parts.now (rw c.as_slice-components.ensures.value at c.in_err-put_tables.ensures.none))

pub returns-clause-image : goal.returns-clause-image
returns-clause-image c =
    let inv = subst (λ (plan : Planned). AreOrdered plan.on plan.order c.self.inside.components.items) c.self.view_is c.self.invariant.0 in
    let homes = subst (λ (plan : Planned). AreHomes plan.on plan.order c.self.inside.homes.items) c.self.view_is c.self.invariant.1 in
    let starts = rw c.as_slice-components.ensures.value at c.in_ok-tables.ensures.starts in
    let tables = rw c.as_slice-components.ensures.value at c.in_ok-put_tables.ensures.tables in
    λ version first are long.
    let all = has_all _ _ _ inv version first in
    image_put version c.put-homes.result c.put-starts.result c.in_ok-tables.tables _ c.args.room.now c.put-homes.new.room c.put-starts.new.room c.put_starts.new.room c.put_tables.new.room
    (subst (PutsWords 0 c.put-homes.result c.args.room.now c.put-homes.new.room) (c.head-head.ensures version first long) (record { end = c.put-homes.ensures.end; grows = c.put-homes.ensures.front }))
    (subst (PutsWords c.put-homes.result c.put-starts.result c.put-homes.new.room c.put-starts.new.room) (c.as_slice-words.ensures.value ∙ homes.are version first)
    (record { end = c.put-starts.ensures.end; grows = c.put-starts.ensures.front }))
    (starts version all are (record { first = c.tables_at-start.ensures.size version first; small = small_first _ _ _ inv version first }))
    (tables version all are)
