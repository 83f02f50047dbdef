use Rattle.std.proofs.Common.{arith}
use Rattle.std.proofs.lemmas.List.{take_rest}
use Rattle.wire.proofs.Growing.{appends_on}
use Rattle.wire.proofs.sink.put_all.Goals as goal

pub loop-put-preserved : goal.loop-put-preserved
loop-put-preserved g c = record {
  within = omega (arith, c.in_ok-put.ensures.count);
  grows = appends_on _ _ _ _ _ _ c.loop-put.invariant.grows (rw take_rest at c.in_ok-put.ensures.grows);
  later = omega (arith, c.in_ok-put.ensures.later);
}
