use Rattle.std.proofs.Common.{◌≡◌, ◌∷◌, map}
use Rattle.std.specs.Vec.Iter.{into_iter_items}
use Rattle.row_store.proofs.CompLaws.{room_next, row_next}
use Rattle.row_store.proofs.CompData.make.Goals as goal

pub push_row-requires-clause-rows : goal.push_row-requires-clause-rows
push_row-requires-clause-rows c =
    let steps : into_iter_items c.loop-row.row-iterator ≡ c.in-Some.row ∷ into_iter_items c.next.new.self = c.in-Some.ensures.steps.0 in
    let whole = rw steps at c.loop-row.invariant.2 in
    room_next _ c.requires c.loop-row.pool (map (λ row. row.items) (into_iter_items c.next.new.self)) c.in-Some.row.items whole

pub push_row-requires-clause-runs : goal.push_row-requires-clause-runs
push_row-requires-clause-runs c =
    let steps : into_iter_items c.loop-row.row-iterator ≡ c.in-Some.row ∷ into_iter_items c.next.new.self = c.in-Some.ensures.steps.0 in
    let whole = rw steps at c.loop-row.invariant.2 in
    rw c.deref.ensures.value
    (row_next _ c.requires c.loop-row.pool (map (λ row. row.items) (into_iter_items c.next.new.self)) c.in-Some.row.items whole)
