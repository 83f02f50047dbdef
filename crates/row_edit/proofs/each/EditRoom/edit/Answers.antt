use Rattle.std.proofs.lemmas.Option.{IfSome_then}
use Rattle.row_edit.proofs.Going.{goes_on}
use Rattle.row_edit.proofs.each.EditRoom.edit.Goals as goal

pub returns : goal.returns
returns c =
    let keeps = rw c.deref-3.ensures.value at c.in_ok-push_known.ensures in
    IfSome_then c.in_ok-after.after c.in_ok-after.ensures (λ more edits.
    rw (c.swap.ensures.x_after, c.swap-2.ensures.x_after)
    (goes_on _ _ _ _ _ _ _ (rw (c.deref.ensures.value, c.deref-2.ensures.value, c.clear.ensures.items) at edits) keeps))
