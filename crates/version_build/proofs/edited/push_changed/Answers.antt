use Rattle.std.proofs.Common.{arith}
use Rattle.version_build.proofs.Differences.{changed_pushed, changed_same, changed_row}
use Rattle.version_build.proofs.edited.push_changed.Goals as goal
use Rattle.version_build.proofs.edited.push_changed.Goals.{then-differ+in_ok-push, else-differ}

pub loop-column-preserved : goal.loop-column-preserved
loop-column-preserved c =
    elim c.if-differ.branch [
      | then-differ+in_ok-push w ↦ rw (w.changed-is, w.in_ok-push.ensures.items) (changed_pushed c.args.old.now c.args.new.now _ _ _ c.loop-column.invariant)
      | else-differ w ↦ rw w.changed-is (changed_same c.args.old.now c.args.new.now _ _ _ c.loop-column.invariant (c.differ.ensures w.if-differ.false))
    ]

pub returns : goal.returns
returns c = changed_row c.args.old.now c.args.new.now _ _ _ c.loop-column.invariant (omega (arith, c.loop-column-test.false, c.width-column-end.ensures.width))
