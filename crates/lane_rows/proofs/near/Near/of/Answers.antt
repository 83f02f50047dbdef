use Rattle.std.proofs.Common.{◌≡◌, ◌+◌, ◌∷◌, ◌++◌, [], length, ap, subst, ◌∙◌, length-append, arith}
use Rattle.std.proofs.lemmas.List.{get_or_default}
use Rattle.lane_rows.specs.Tables.{IsEdge, end_of}
use Rattle.lane_rows.proofs.Nearness.{near_more, mutual_at_end}
use Rattle.lane_rows.proofs.near.Near.of.Goals as goal

pub loop-cell-preserved : goal.loop-cell-preserved
loop-cell-preserved c =
    let here = get_or_default c.args.cells.now c.loop-cell.cell-index _ (record { x = 0; y = 0 }) c.loop-cell-test.true in
    let more =
    near_more c.args.cells.now c.loop-cell.table.items c.around.result c.loop-cell.cell-index c.loop-cell.invariant.long c.loop-cell.invariant.eight c.loop-cell.invariant.each c.around.ensures.moves
    (λ move. subst (λ cell. IsEdge c.args.cells.now cell move (end_of c.around.result move)) here (c.around.ensures.edges move)) in
    let items : c.push.new.self.items ≡ c.loop-cell.table.items ++ c.around.result ∷ [] = c.in_ok-push.ensures.items in
    record { long = ap length items ∙ length-append c.loop-cell.table.items (c.around.result ∷ []) ∙ ap (λ n. n + 1) c.loop-cell.invariant.long; eight = rw items more.0; each = rw items more.1 }

pub invariant_of-result : goal.invariant_of-result
invariant_of-result c = (mutual_at_end _ _ _ c.requires c.loop-cell.invariant.long (omega arith) c.loop-cell.invariant.eight c.loop-cell.invariant.each, omega arith)

pub returns-clause-pairs : goal.returns-clause-pairs
returns-clause-pairs c = mutual_at_end _ _ _ c.requires c.loop-cell.invariant.long (omega arith) c.loop-cell.invariant.eight c.loop-cell.invariant.each
