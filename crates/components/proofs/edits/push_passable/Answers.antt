use Rattle.std.proofs.Common.{arith}
use Rattle.std.proofs.lemmas.Bool.{iff_false}
use Rattle.components.proofs.Below.{read_at}
use Rattle.components.proofs.Pushing.{pushing_skip, pushing_more, pushed_all}
use Rattle.components.proofs.edits.push_passable.Goals as goal
use Rattle.components.proofs.edits.push_passable.Goals.{then-passable+in_ok-push, else-passable}

pub loop-cell-preserved : goal.loop-cell-preserved
loop-cell-preserved c =
    elim c.if-passable.branch [
      | then-passable+in_ok-push w ↦
          rw (w.ranks-is, w.in_ok-push.ensures.items)
          (pushing_more _ _ _ _ _ c.loop-cell.invariant _ c.loop-cell-test.true (read_at _ _ _ c.loop-cell-test.true) (c.passable.ensures.0 w.if-passable.true) _ w.rank.ensures)
      | else-passable w ↦
          rw w.ranks-is
          (pushing_skip _ _ _ _ _ c.loop-cell.invariant _ c.loop-cell-test.true (read_at _ _ _ c.loop-cell-test.true) (iff_false c.passable.ensures w.if-passable.false))
    ]

pub returns-clause-more : goal.returns-clause-more
returns-clause-more c = pushed_all _ _ _ _ _ (omega arith) c.loop-cell.invariant
