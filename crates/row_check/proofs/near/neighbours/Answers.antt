use Rattle.std.proofs.Common.{◌≡◌, ◌+◌, ◌∷◌, ◌++◌, [], length, ap, subst, ◌∙◌, length-append}
use Rattle.std.proofs.lemmas.List.{get_or_default}
use Rattle.row_check.specs.Marking.{IsEdge, end_of}
use Rattle.row_check.proofs.Edging.{near_more}
use Rattle.row_check.proofs.near.neighbours.Goals as goal

pub loop-cell-preserved : goal.loop-cell-preserved
loop-cell-preserved c =
    let here = get_or_default c.args.cells.now c.loop-cell.cell-index _ (record { x = 0; y = 0 }) c.loop-cell-test.true in
    let items : c.push.new.self.items ≡ c.loop-cell.near.items ++ c.around.result ∷ [] = c.in_ok-push.ensures.items in
    near_more c.args.cells.now c.loop-cell.near.items c.around.result c.loop-cell.cell-index c.loop-cell.invariant
    (λ move. subst (λ cell. IsEdge c.args.cells.now cell move (end_of c.around.result move)) here (c.around.ensures.edges move)) _ items
    (ap length items ∙ length-append c.loop-cell.near.items (c.around.result ∷ []) ∙ ap (λ n. n + 1) c.loop-cell.invariant.whole)
