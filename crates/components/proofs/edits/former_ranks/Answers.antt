use Rattle.std.proofs.Common.{◌<◌, List, [], length, get_or, take, false, inl, inr, sym, subst, ap, ◌∙◌, arith}
use Rattle.std.specs.List.{Contains}
use Rattle.std.proofs.lemmas.Bool.{cases_Bool}
use Rattle.moves.specs.declared.Cell.{Cell}
use Rattle.components.proofs.Pushing.{former_more, first_in, first_within}
use Rattle.components.proofs.edits.former_ranks.Goals as goal

pub loop-label-preserved : goal.loop-label-preserved
loop-label-preserved c =
    let low : c.loop-label.label < length c.args.labels.now = omega arith in
    let comp : List Cell = get_or c.args.labels.now c.loop-label.label [] in
    let some : 0 < length (get_or c.args.labels.now c.loop-label.label []) = c.requires.some c.loop-label.label low in
    let cells = c.cells.ensures in
    let part = c.whole_or_first-cells.ensures in
    rw c.in_ok-push_ranks.ensures
    (former_more _ _ _ _ c.loop-label.invariant low _
    (λ x has.
    elim (cases_Bool (get_or c.args.touched.now c.loop-label.label false)) [
      | inl is ↦ subst (λ xs. Contains xs x) (part.whole is ∙ cells) has
      | inr not ↦ first_within _ _ some (part.first not ∙ ap (take 1) cells) x has
    ])
    (λ not. first_in _ _ some (part.first not ∙ ap (take 1) cells))
    (λ is x has. subst (λ xs. Contains xs x) (sym (part.whole is ∙ cells)) has))
