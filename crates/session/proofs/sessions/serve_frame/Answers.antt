use Rattle.std.proofs.Common.{refl, subst, ap, ◌∙◌}
use Rattle.wire.specs.Talks.{SendsPrefix, with_sent}
use Rattle.session.proofs.Replying.{bytes_behind, sent_whole}
use Rattle.session.proofs.sessions.serve_frame.Goals as goal

pub send-requires-after_bounds : goal.send-requires-after_bounds
send-requires-after_bounds g c =
    λ lives outlives.
    let a = c.answer_frame-reply.ensures.answers in
    bytes_behind _ _ c.args.frame.now c.answer_frame-reply.result.0 a.moves c.answer_frame-reply.new.room _ _ a.serves a.bytes_are

pub returns-in-Ok-clause-tells : goal.returns-in-Ok-clause-tells
returns-in-Ok-clause-tells g c =
    let a = c.answer_frame-reply.ensures.answers in
    let reply = c.answer_frame-reply.result.0 in
    record {
      exchange = record { frame = c.args.frame.now; told = reply; moves = a.moves };
      frame_is = refl;
      serves = a.serves;
      sends = (
        a.ends,
        c.in-Ok.ensures.sent ∙ ap (with_sent (g.L.Link.at c.args.link.now).talk) (sent_whole _ _ c.args.frame.now reply a.moves c.answer_frame-reply.new.room _ _ a.serves a.bytes_are),
      );
    }

pub returns-in-Err-clause-tells : goal.returns-in-Err-clause-tells
returns-in-Err-clause-tells g c =
    let a = c.answer_frame-reply.ensures.answers in
    let reply = c.answer_frame-reply.result.0 in
    record {
      exchange = record { frame = c.args.frame.now; told = reply; moves = a.moves };
      frame_is = refl;
      serves = a.serves;
      sends = subst (SendsPrefix (g.L.Link.at c.args.link.now).talk (g.L.Link.at c.send.new.link).talk)
          (sent_whole _ _ c.args.frame.now reply a.moves c.answer_frame-reply.new.room _ _ a.serves a.bytes_are) c.in-Err.ensures.prefix;
    }
