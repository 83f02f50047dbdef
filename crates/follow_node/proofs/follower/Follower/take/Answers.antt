use Rattle.follow_node.proofs.Taken.{took_all, took_next}
use Rattle.follow_node.proofs.follower.Follower.take.Goals as goal

pub returns-in-Err-clause-refused : goal.returns-in-Err-clause-refused
returns-in-Err-clause-refused c =
    took_all _ c.loop-byte.self _ _ c.loop-byte.byte-index c.loop-byte.invariant.0 c.loop-byte.invariant.1 c.loop-byte-test.true
    c.in-Err.fault c.in-Err.ensures.fault c.in-Err.ensures.refused

pub loop-byte-preserved : goal.loop-byte-preserved
loop-byte-preserved c = (
  took_next _ c.loop-byte.self _ _ c.loop-byte.byte-index c.loop-byte.invariant.0 c.loop-byte.invariant.1 c.loop-byte-test.true c.in-Ok.ensures.taken,
  c.in-Ok.ensures.open,
)
