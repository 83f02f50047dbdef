use Rattle.std.proofs.Common.{subst, ◌∙◌, ap, arith}
use Rattle.path_core.specs.Histories.{accepted_count, edits_of}
use Rattle.path_core.specs.Passes.{OthersAdd}
use Rattle.path_core.proofs.Passing.{count_grows, others_begin, others_then}
use Rattle.path_board.specs.Passes.{seen_of}
use Rattle.std.specs.Prelude.{drop}
use Rattle.feed_node.proofs.Backlogs.{backlog_all, backlog_none, backlog_stays}
use Rattle.feed_node.proofs.Holding.{since_kept, since_look, since_then}
use Rattle.feed_node.proofs.backlog.look_up.Goals as goal

pub returns-then-known-accepted-clause-backlog : goal.returns-then-known-accepted-clause-backlog
returns-then-known-accepted-clause-backlog g c =
    backlog_stays _ _ (others_begin _ _ _ c.look-accepted.ensures.look.others) _ _ c.requires.backlog

pub returns-in-Ok-clause-none : goal.returns-in-Ok-clause-none
returns-in-Ok-clause-none g c =
    others_then _ _ (seen_of c.look-accepted.new.pass) _ c.look-accepted.ensures.look.others
    (subst (λ n. OthersAdd n (seen_of c.look-accepted.new.pass) (seen_of c.job.new.pass)) c.look-accepted.ensures.same.number c.in-Ok.ensures.job.others)

pub returns-in-Ok-clause-backlog : goal.returns-in-Ok-clause-backlog
returns-in-Ok-clause-backlog g c =
    let look = c.look-accepted.ensures.look in
    let job = c.in-Ok.ensures.job in
    let seen = ap accepted_count look.at.history_is in
    backlog_all _ _ _
    (omega (arith, c.if-known-accepted.false, look.answer.accepted, seen, count_grows (seen_of c.look-accepted.new.pass) (seen_of c.job.new.pass) (others_begin _ _ _ job.others)))
    (job.answer.edits ∙ ap (λ l. drop c.args.known (edits_of l)) job.at.history_is)

pub returns-in-Err-clause-none : goal.returns-in-Err-clause-none
returns-in-Err-clause-none g c =
    others_then _ _ (seen_of c.look-accepted.new.pass) _ c.look-accepted.ensures.look.others
    (subst (λ n. OthersAdd n (seen_of c.look-accepted.new.pass) (seen_of c.job.new.pass)) c.look-accepted.ensures.same.number c.in-Err.ensures.refused.others)

pub returns-in-Err-clause-backlog : goal.returns-in-Err-clause-backlog
returns-in-Err-clause-backlog g c = backlog_none _ _ _ c.none.ensures.known c.none.ensures.edits

pub returns-then-known-accepted-clause-held : goal.returns-then-known-accepted-clause-held
returns-then-known-accepted-clause-held g c =
    let look = c.look-accepted.ensures in
    since_look c.args.pass.now c.look-accepted.new.pass _ (others_begin _ _ _ look.look.others) look.held look.refused

pub returns-in-Ok-clause-held : goal.returns-in-Ok-clause-held
returns-in-Ok-clause-held g c =
    let look = c.look-accepted.ensures in
    let first = others_begin _ _ _ look.look.others in
    since_then c.args.pass.now c.look-accepted.new.pass c.job.new.pass first (others_begin _ _ _ c.in-Ok.ensures.job.others) (since_look c.args.pass.now c.look-accepted.new.pass _ first look.held look.refused)
    (since_kept c.look-accepted.new.pass c.job.new.pass c.job.ensures.kept)

pub returns-in-Err-clause-held : goal.returns-in-Err-clause-held
returns-in-Err-clause-held g c =
    let look = c.look-accepted.ensures in
    let first = others_begin _ _ _ look.look.others in
    since_then c.args.pass.now c.look-accepted.new.pass c.job.new.pass first (others_begin _ _ _ c.in-Err.ensures.refused.others) (since_look c.args.pass.now c.look-accepted.new.pass _ first look.held look.refused)
    (since_kept c.look-accepted.new.pass c.job.new.pass c.job.ensures.kept)
