use Rattle.std.proofs.Common.{◌≡◌, ◌+◌, ◌-◌, length, vec_len, ap, ◌∙◌, arith}
use Rattle.std.specs.Vec.{with_items}
use Rattle.std.proofs.lemmas.List.{with_items_is}
use Rattle.components.specs.declared.TheConstants.{UNLABELLED}
use Rattle.components.specs.Marks.{count_below}
use Rattle.components.proofs.Spreading.{count_within}
use Rattle.components.proofs.Lookups.{stored_whole, stored_list}
use Rattle.components.proofs.label.Goals as goal
use Rattle.components.proofs.label.Goals.{After-height}

pub gather-requires-clause-room : goal.gather-requires-clause-room
gather-requires-clause-room c =
    let scanned = c.in_ok-starts.ensures.scanned in
    let counted = ap (count_below UNLABELLED) (c.deref.ensures.value ∙ c.into_parts-labels.ensures.labels) in
    omega (arith, count_within _ _ scanned.flooded.balanced, scanned.flooded.balanced.count, c.deref_mut-2.ensures.len, c.into_parts-labels.result.1.ok.0, ap length c.into_parts-labels.ensures.found)

size_is : (c : After-height) → length c.gather.new.starts ≡ (vec_len c.in_ok-starts.starts - 1) + 1
size_is c = omega (arith, c.gather.auto.starts, c.deref_mut.ensures.len, c.in_ok-starts.ensures.starts.size, c.in_ok-starts.starts.ok.0)

starts_are : (c : After-height) → (with_items c.in_ok-starts.starts c.gather.new.starts).items ≡ c.gather.new.starts
starts_are c = with_items_is c.in_ok-starts.starts c.gather.new.starts (let size = size_is c in omega (arith, c.in_ok-starts.ensures.starts.size, c.in_ok-starts.starts.ok.0))

cells_are : (c : After-height) → (with_items c.into_parts-labels.result.1 c.gather.new.cells).items ≡ c.gather.new.cells
cells_are c = with_items_is c.into_parts-labels.result.1 c.gather.new.cells (omega (arith, c.gather.auto.cells, c.deref_mut-2.ensures.len))

pub invariant_of-result : goal.invariant_of-result
invariant_of-result c =
    rw (starts_are c, cells_are c)
    (stored_whole _ c.width-width.ensures.limits _ _ c.in_ok-starts.ensures.scanned _ _ _ _ c.width-width.ensures.width c.height.ensures.height c.into_parts-labels.ensures.labels (size_is c) _
    (rw c.deref.ensures.value at c.gather.ensures))

pub returns : goal.returns
returns c =
    rw (starts_are c)
    (stored_list _ c.width-width.ensures.limits _ _ c.in_ok-starts.ensures.scanned _ _ _ _ c.width-width.ensures.width c.height.ensures.height c.into_parts-labels.ensures.labels (size_is c))
