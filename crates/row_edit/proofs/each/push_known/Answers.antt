use Rattle.row_edit.proofs.Going.{knows_more}
use Rattle.row_edit.proofs.each.push_known.Goals as goal
use Rattle.row_edit.proofs.each.push_known.Goals.{in-Some+in_ok-push, in_default}

pub loop-one-preserved : goal.loop-one-preserved
loop-one-preserved c =
    elim c.match-moved.branch [
      | in-Some+in_ok-push w ↦
          rw (w.next-is, w.in_ok-push.ensures.items) (knows_more _ _ _ _ _ _ c.loop-one.invariant c.loop-one-test.true w.in-Some.ensures)
      | in_default w ↦ rw w.next-is c.loop-one.invariant
    ]
