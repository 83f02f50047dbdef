use Rattle.std.proofs.Common.{ap, arith}
use Rattle.follow_node.specs.Following.{followed_of}
use Rattle.follow_node.proofs.Submitted.{front_submitted, one_more_submitted}
use Rattle.follow_node.proofs.hearing.submit_all.Goals as goal

pub returns-in-Err-clause-fault : goal.returns-in-Err-clause-fault
returns-in-Err-clause-fault c =
    front_submitted _ (followed_of c.loop-place.board) _ _ c.loop-place.place _ _ c.loop-place.invariant
    (omega (arith, c.loop-place-test.true, c.len-place-end.ensures)) (ap followed_of c.in-Err.ensures.as_before) c.in-Err.ensures.fault

pub loop-place-preserved : goal.loop-place-preserved
loop-place-preserved c =
    one_more_submitted _ (followed_of c.loop-place.board) _ _ c.loop-place.place c.loop-place.invariant
    (omega (arith, c.loop-place-test.true, c.len-place-end.ensures)) c.in-Ok.ensures.entered c.in-Ok.ensures.may
