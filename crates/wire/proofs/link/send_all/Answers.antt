use Rattle.std.proofs.Common.{arith}
use Rattle.std.proofs.lemmas.List.{take_rest}
use Rattle.wire.proofs.Counting.{no_writes, writes_on}
use Rattle.wire.proofs.Sending.{sent_none, sent_on}
use Rattle.wire.proofs.link.send_all.Goals as goal

pub loop-sent-init : goal.loop-sent-init
loop-sent-init g c =
    record { within = omega arith; sent = sent_none _; counts = no_writes _ }

pub loop-sent-preserved : goal.loop-sent-preserved
loop-sent-preserved g c = record {
  within = omega (arith, c.in_ok-sent.ensures.count);
  sent = sent_on _ _ _ _ _ _ c.loop-sent.invariant.sent (rw take_rest at c.in_ok-sent.ensures.sent);
  counts = writes_on _ _ _ c.loop-sent.invariant.counts c.in_ok-sent.ensures.counts;
}
