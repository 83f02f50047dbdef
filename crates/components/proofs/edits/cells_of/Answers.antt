use Rattle.std.proofs.Common.{refl, arith}
use Rattle.components.proofs.Ranking.{cells_below_skip, cells_below_more, cells_below_all, rank_of_parts}
use Rattle.components.proofs.edits.cells_of.Goals as goal
use Rattle.components.proofs.edits.cells_of.Goals.{then-is_new+in_ok-push, else-is_new}

pub loop-i-preserved : goal.loop-i-preserved
loop-i-preserved c =
    elim c.if-is_new.branch [
      | then-is_new+in_ok-push w ↦
          rw (w.cells-is, w.in_ok-push.ensures.items)
          (cells_below_more _ _ _ c.loop-i.invariant (c.is_new.ensures.new w.if-is_new.true) _ (omega arith) (rank_of_parts _ _ _ refl refl))
      | else-is_new w ↦
          let seen = c.is_new.ensures.seen w.if-is_new.false in
          rw w.cells-is (cells_below_skip _ _ _ c.loop-i.invariant seen.0 seen.1 seen.2)
    ]

pub returns : goal.returns
returns c = cells_below_all _ _ _ (omega arith) c.loop-i.invariant
