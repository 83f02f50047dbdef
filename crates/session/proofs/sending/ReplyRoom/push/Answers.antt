use Rattle.std.proofs.Common.{arith}
use Rattle.query_proto.specs.declared.TheConstants.{HEAD_ROOM, MAX_MOVES}
use Rattle.session.proofs.Writing.{few_held, held_push}
use Rattle.session.proofs.sending.ReplyRoom.push.Goals as goal

pub bounds-self-inside-self-inside : goal.bounds-self-inside-self-inside
bounds-self-inside-self-inside c =
    let few = few_held c.self.inside.room c.args.self.now HEAD_ROOM c.self.inside.many c.self.view_is (omega (arith, c.self.told)) MAX_MOVES c.requires in
    omega arith

pub invariant_of-self : goal.invariant_of-self
invariant_of-self c =
    let few = few_held c.self.inside.room c.args.self.now HEAD_ROOM c.self.inside.many c.self.view_is (omega (arith, c.self.told)) MAX_MOVES c.requires in
    omega arith

pub returns : goal.returns
returns c =
    let few = few_held c.self.inside.room c.args.self.now HEAD_ROOM c.self.inside.many c.self.view_is (omega (arith, c.self.told)) MAX_MOVES c.requires in
    held_push c.self.inside.room c.args.self.now HEAD_ROOM c.self.inside.many c.self.view_is (omega (arith, c.self.told)) _ c.number.result
    (omega (arith, few, c.self.told)) c.number.ensures.number
