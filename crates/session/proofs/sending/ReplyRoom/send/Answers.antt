use Rattle.std.proofs.Common.{◌≡◌, List, ℕ, OnErr, OnOk, length, subst, arith}
use borrow.Rule.Slice.PartMut.{mid_len}
use Rattle.query_proto.specs.declared.TheConstants.{HEAD_ROOM}
use Rattle.query_proto.specs.Frames.{sent_head}
use Rattle.wire.specs.Talks.{SendsPrefix, with_sent}
use Rattle.session.proofs.Writing.{head_held}
use Rattle.session.proofs.sending.ReplyRoom.send.Goals as goal

pub returns-clause-sent : goal.returns-clause-sent
returns-clause-sent g c =
    let long = c.self.told in
    let whole = mid_len 0 HEAD_ROOM c.self.inside.room (omega arith) in
    let edge : length c.put_head-start.new.front ≡ HEAD_ROOM = omega (arith, c.put_head-start.auto.front) in
    subst (λ (text : List ℕ). OnOk c.send_all.result ((g.L.Link.at c.send_all.new.link).talk ≡ with_sent (g.L.Link.at c.args.link.now).talk text))
    (head_held c.self.inside.room c.args.self.now HEAD_ROOM c.self.inside.many c.self.view_is (omega (arith, c.self.invariant))
    c.put_head-start.new.front (sent_head c.args.reply.now) c.put_head-start.result edge c.put_head-start.ensures.inside c.put_head-start.ensures.head) c.send_all.ensures.sent

pub returns-clause-prefix : goal.returns-clause-prefix
returns-clause-prefix g c =
    let long = c.self.told in
    let whole = mid_len 0 HEAD_ROOM c.self.inside.room (omega arith) in
    let edge : length c.put_head-start.new.front ≡ HEAD_ROOM = omega (arith, c.put_head-start.auto.front) in
    subst (λ (text : List ℕ). OnErr c.send_all.result (SendsPrefix (g.L.Link.at c.args.link.now).talk (g.L.Link.at c.send_all.new.link).talk text))
    (head_held c.self.inside.room c.args.self.now HEAD_ROOM c.self.inside.many c.self.view_is (omega (arith, c.self.invariant))
    c.put_head-start.new.front (sent_head c.args.reply.now) c.put_head-start.result edge c.put_head-start.ensures.inside c.put_head-start.ensures.head) c.send_all.ensures.prefix
