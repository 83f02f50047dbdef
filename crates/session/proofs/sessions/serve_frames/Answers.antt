use Rattle.std.proofs.Common.{◌+◌, nat_lt, refl, ◌∙◌, arith}
use Rattle.wire.proofs.Counting.{later_on, no_calls}
use Rattle.session.specs.declared.sessions.TheConstants.{MAX_REQUESTS}
use Rattle.session.specs.Turns.{point}
use Rattle.session.proofs.Talking.{no_more, talk_ends_at, talk_fails_at, talk_more_at, talk_none, talk_spent}
use Rattle.session.proofs.sessions.serve_frames.Goals as goal

pub loop-count-init : goal.loop-count-init
loop-count-init g c =
    let start = point c.args.session.now (g.K.Desk.at c.args.desk.now) (g.L.Link.at c.args.link.now).talk in
    record {
      talk = talk_none (g.K.Desk.at c.args.desk.now).place start c.requires.start c.requires.none;
      place = refl;
      counts = no_calls _;
    }

pub returns-in-Ok-Some-clause-talk : goal.returns-in-Ok-Some-clause-talk
returns-in-Ok-Some-clause-talk g c =
    let inv = c.loop-count.invariant in
    let new = point c.serve_next.new.session (g.K.Desk.at c.serve_next.new.desk) (g.L.Link.at c.serve_next.new.link).talk in
    talk_ends_at _ _ _ _ _ inv.talk _ _ _ _ new inv.place c.in-Ok-Some.field-0-is c.in-Ok-Some.ensures.steps c.loop-count-test.true

pub returns-in-Err-clause-talk : goal.returns-in-Err-clause-talk
returns-in-Err-clause-talk g c =
    let inv = c.loop-count.invariant in
    let new = point c.serve_next.new.session (g.K.Desk.at c.serve_next.new.desk) (g.L.Link.at c.serve_next.new.link).talk in
    talk_fails_at _ _ _ _ _ inv.talk _ (nat_lt (c.loop-count.count + 1) MAX_REQUESTS) c.in-Err.fault new inv.place c.in-Err.ensures.steps c.loop-count-test.true

pub loop-count-preserved : goal.loop-count-preserved
loop-count-preserved g c =
    let inv = c.loop-count.invariant in
    let new = point c.serve_next.new.session (g.K.Desk.at c.serve_next.new.desk) (g.L.Link.at c.serve_next.new.link).talk in
    record {
      talk = talk_more_at _ _ _ _ _ inv.talk _ _ _ new inv.place c.in-Ok-None.field-0-is
          c.in-Ok-None.ensures.steps (λ e. no_more (c.loop-count.count + 1) e);
      place = c.in-Ok-None.ensures.place ∙ inv.place;
      counts = later_on _ _ _ inv.counts c.in-Ok-None.ensures.counts;
    }

pub returns-clause-talk : goal.returns-clause-talk
returns-clause-talk g c =
    talk_spent _ _ _ _ _ c.loop-count.invariant.talk
    (omega (arith, c.loop-count-test.false, c.loop-count.auto.count-end))
