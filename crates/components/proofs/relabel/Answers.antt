use Rattle.std.proofs.Common.{◌≡◌, ◌+◌, ◌-◌, length, vec_len, arith}
use Rattle.components.proofs.Lookups.{stored_whole, stored_list}
use Rattle.components.proofs.relabel.Goals as goal
use Rattle.components.proofs.relabel.Goals.{After-into_parts-labels}

size_is : (c : After-into_parts-labels) → length c.in_ok-starts.starts.items ≡ (vec_len c.in_ok-starts.starts - 1) + 1
size_is c = omega (arith, c.in_ok-starts.ensures.some, c.in_ok-starts.starts.ok.0)

pub invariant_of-result : goal.invariant_of-result
invariant_of-result c =
    stored_whole _ c.width-width.ensures.limits _ _ c.in_ok-starts.ensures.scanned _ _ _ _
    c.width-width.ensures.width c.height-height.ensures.height c.into_parts-labels.ensures.labels
    (size_is (goal.at.invariant_of-result c).After-into_parts-labels) _
    (rw (c.width-width.ensures.width, c.into_parts-labels.ensures.labels) c.in_ok-starts.ensures.grouped)

pub returns : goal.returns
returns c =
    stored_list _ c.width-width.ensures.limits _ _ c.in_ok-starts.ensures.scanned _ _ _ _
    c.width-width.ensures.width c.height-height.ensures.height c.into_parts-labels.ensures.labels
    (size_is (goal.at.returns c).After-into_parts-labels)
