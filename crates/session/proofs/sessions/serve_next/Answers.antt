use Rattle.std.proofs.Common.{◌≤◌, subst, sym}
use Rattle.query_proto.specs.declared.TheConstants.{MAX_REQUEST}
use Rattle.session.specs.Turns.{point}
use Rattle.session.proofs.Protocols.{limits_fit}
use Rattle.session.proofs.Turning.{over_at, unsent_at}
use Rattle.session.proofs.sessions.serve_next.Goals as goal

pub next_frame-requires-clause-limit : goal.next_frame-requires-clause-limit
next_frame-requires-clause-limit g c =
    λ lives outlives. subst (λ n. n ≤ MAX_REQUEST) (sym c.frame_limit-limit.ensures) (limits_fit c.args.session.now.proto)

pub returns-in-Ok-clause-steps : goal.returns-in-Ok-clause-steps
returns-in-Ok-clause-steps g c =
    let old = point c.args.session.now (g.K.Desk.at c.args.desk.now) (g.L.Link.at c.args.link.now).talk in
    over_at (g.K.Desk.at c.args.desk.now).place c.args.ahead old _ c.next_frame.new.self c.frame_limit-limit.result _ _ _ c.frame_limit-limit.ensures
    c.in_ok-size.ensures.more c.in_ok-size.ensures.next c.in-Some.is c.frame-frame.ensures c.in-Ok.ended _ c.in-Ok.ensures.tells c.protocol_after-session.ensures c.pass.ensures

pub returns-in-Err-clause-steps : goal.returns-in-Err-clause-steps
returns-in-Err-clause-steps g c =
    let old = point c.args.session.now (g.K.Desk.at c.args.desk.now) (g.L.Link.at c.args.link.now).talk in
    unsent_at (g.K.Desk.at c.args.desk.now).place c.args.ahead old _ c.next_frame.new.self c.frame_limit-limit.result _ _ _ c.frame_limit-limit.ensures
    c.in_ok-size.ensures.more c.in_ok-size.ensures.next c.in-Some.is c.frame-frame.ensures c.in-Err.field-0 _ c.in-Err.ensures.tells c.pass.ensures
