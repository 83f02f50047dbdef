use Rattle.std.proofs.Common.{◌≡◌, ◌⊎◌, inl, inr}
use Rattle.std.specs.List.{Contains}
use Rattle.std.proofs.lemmas.List.Elements.{Contains-push, Contains-append_left}
use Rattle.moves.specs.Maps.{IsInside, terrain_of}
use Rattle.components.proofs.Below.{all_below_more, read_at}
use Rattle.components.proofs.edits.differing.Goals as goal
use Rattle.components.proofs.edits.differing.Goals.{then-differ+in_ok-push, else-differ}

pub loop-cell-preserved : goal.loop-cell-preserved
loop-cell-preserved c =
    let old = c.args.old.now in
    let new = c.args.new.now in
    elim c.if-differ.branch [
      | then-differ+in_ok-push w ↦
          rw (w.cells-is, w.in_ok-push.ensures.items)
          (all_below_more _ (λ x. IsInside old x → Contains _ x ⊎ (terrain_of new x ≡ terrain_of old x)) _ _ _
          c.loop-cell-test.true (read_at _ _ _ c.loop-cell-test.true) c.loop-cell.invariant
          (λ x before inside.
          elim (before inside) [ inl has ↦ inl (Contains-append_left _ _ x has) | inr same ↦ inr same ])
          (λ inside. inl (Contains-push _ _)))
      | else-differ w ↦
          rw w.cells-is
          (all_below_more _ _ _ _ _ c.loop-cell-test.true (read_at _ _ _ c.loop-cell-test.true) c.loop-cell.invariant
          (λ x before. before)
          (λ inside. inr (c.differ.ensures w.if-differ.false inside)))
    ]
