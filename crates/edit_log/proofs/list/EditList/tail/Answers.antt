use Rattle.std.proofs.Common.{arith}
use Rattle.edit_log.proofs.Cutting.{one_more_copied}
use Rattle.edit_log.proofs.list.EditList.tail.Goals as goal

pub loop-next-preserved : goal.loop-next-preserved
loop-next-preserved c = one_more_copied _ _ _ _ _ _ c.loop-next.invariant (omega (arith, c.loop-next-test.true, c.len-next-end.ensures))
    c.changes_at.ensures.changes c.push_changes.ensures
