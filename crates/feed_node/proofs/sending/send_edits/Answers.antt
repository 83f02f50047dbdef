use Rattle.std.proofs.lemmas.Result.{on_err_weaker, on_ok_weaker}
use Rattle.feed_node.proofs.Writing.{all_out, first_fails, last_fails, on_err, second_fails}
use Rattle.feed_node.proofs.Sent.{whole_of}
use Rattle.feed_node.proofs.sending.send_edits.Goals as goal

pub returns-in_err-put_bytes-clause-prefix : goal.returns-in_err-put_bytes-clause-prefix
returns-in_err-put_bytes-clause-prefix g c =
    on_err c.from_residual.result _ (first_fails _ _ _ _ _ c.requires.none (whole_of _ _ _ _ _ c.edits_head_at-head.ensures.count c.edits_head_at-head.ensures.head) _
    c.in_err-put_bytes.ensures.prefix)

pub returns-in_err-put_edits-clause-prefix : goal.returns-in_err-put_edits-clause-prefix
returns-in_err-put_edits-clause-prefix g c =
    on_err c.from_residual-in_err-put_edits.result _ (second_fails _ _ _ _ _ c.requires.none (whole_of _ _ _ _ _ c.edits_head_at-head.ensures.count c.edits_head_at-head.ensures.head) _ _
    c.in_ok-put_bytes.ensures.put _ c.in_err-put_edits.ensures.prefix)

pub returns-clause-sent : goal.returns-clause-sent
returns-clause-sent g c =
    on_ok_weaker c.flush.result (all_out _ _ _ _ _ c.requires.none (whole_of _ _ _ _ _ c.edits_head_at-head.ensures.count c.edits_head_at-head.ensures.head) _ _
    c.in_ok-put_bytes.ensures.put _ _ c.in_ok-put_edits.ensures.put _) c.flush.ensures.sent

pub returns-clause-prefix : goal.returns-clause-prefix
returns-clause-prefix g c =
    on_err_weaker c.flush.result (last_fails _ _ _ _ _ c.requires.none (whole_of _ _ _ _ _ c.edits_head_at-head.ensures.count c.edits_head_at-head.ensures.head) _ _
    c.in_ok-put_bytes.ensures.put _ _ c.in_ok-put_edits.ensures.put _) c.flush.ensures.prefix
