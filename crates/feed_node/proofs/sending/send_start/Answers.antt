use Rattle.std.proofs.lemmas.Result.{on_err_weaker, on_ok_weaker}
use Rattle.feed_node.proofs.Writing.{all_out, first_fails, last_fails, on_err, second_fails}
use Rattle.feed_node.proofs.Sent.{start_of}
use Rattle.feed_node.proofs.sending.send_start.Goals as goal

pub returns-in_err-put_bytes-clause-prefix : goal.returns-in_err-put_bytes-clause-prefix
returns-in_err-put_bytes-clause-prefix g c =
    on_err c.from_residual.result _
    (first_fails _ _ _ _ _ c.requires (start_of _ _ _ _ c.start_head.ensures c.width.ensures.width c.height.ensures.height c.width.ensures.whole) _
    c.in_err-put_bytes.ensures.prefix)

pub returns-in_err-put_ground-clause-prefix : goal.returns-in_err-put_ground-clause-prefix
returns-in_err-put_ground-clause-prefix g c =
    on_err c.from_residual-in_err-put_ground.result _
    (second_fails _ _ _ _ _ c.requires (start_of _ _ _ _ c.start_head.ensures c.width.ensures.width c.height.ensures.height c.width.ensures.whole) _ _
    c.in_ok-put_bytes.ensures.put _ c.in_err-put_ground.ensures.prefix)

pub returns-clause-sent : goal.returns-clause-sent
returns-clause-sent g c =
    on_ok_weaker c.flush.result
    (all_out _ _ _ _ _ c.requires (start_of _ _ _ _ c.start_head.ensures c.width.ensures.width c.height.ensures.height c.width.ensures.whole) _ _
    c.in_ok-put_bytes.ensures.put _ _ c.in_ok-put_ground.ensures.put _) c.flush.ensures.sent

pub returns-clause-prefix : goal.returns-clause-prefix
returns-clause-prefix g c =
    on_err_weaker c.flush.result
    (last_fails _ _ _ _ _ c.requires (start_of _ _ _ _ c.start_head.ensures c.width.ensures.width c.height.ensures.height c.width.ensures.whole) _ _
    c.in_ok-put_bytes.ensures.put _ _ c.in_ok-put_ground.ensures.put _) c.flush.ensures.prefix
