use Rattle.std.proofs.Common.{[], refl, arith}
use Rattle.follow_proto.proofs.Several.{all_put, one_more_put}
use Rattle.follow_proto.proofs.edits.edit_bytes.Goals as goal

pub loop-change-init : goal.loop-change-init
loop-change-init c = record {
  front = c.put_byte-next.ensures.grows [] c.args.room.now (refl, refl);
  next = c.put_byte-next.ensures.next;
  len = c.put_byte-next.ensures.len;
}

pub loop-change-preserved : goal.loop-change-preserved
loop-change-preserved c = one_more_put _ _ _ _ _ _ _ _ c.loop-change.invariant c.loop-change-test.true c.put_change-next.ensures.grows
    c.put_change-next.ensures.next c.put_change-next.ensures.len

pub returns-clause-bytes : goal.returns-clause-bytes
returns-clause-bytes c = all_put _ _ _ _ _ c.loop-change.invariant (omega (arith, c.loop-change-test.false))
