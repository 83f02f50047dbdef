use Rattle.std.proofs.lemmas.List.Sorted.{IsNonDecreasingBy-from_sort}
use Rattle.components.proofs.Planning.{planned_from}
use Rattle.components.proofs.edits.Edit.of.Goals as goal

pub cells_of-requires : goal.cells_of-requires
cells_of-requires c = rw c.deref-4.ensures.value (IsNonDecreasingBy-from_sort (λ x. x) _ c.in_ok-sort.ensures.sorted)

pub returns : goal.returns
returns c =
    planned_from _ _ c.requires.limits c.requires.sides _ c.requires.labels _ c.in_ok-cells.ensures _ (rw c.deref.ensures.value at c.in_ok-touched.ensures)
    _ (rw c.deref-2.ensures.value at c.in_ok-ranks.ensures)
    _ c.in_ok-push_passable.ensures.kept (rw c.deref-3.ensures.value at c.in_ok-push_passable.ensures.more) c.in_ok-push_passable.ensures.inside
    _ c.sort.ensures.permutation _ (rw c.deref-4.ensures.value at c.in_ok-seeds.ensures)
