use Rattle.std.proofs.Common.{subst, ap, ap₂}
use Rattle.query_proto.specs.declared.replies.Reply.TheVariants as reply
use Rattle.walker.specs.Walks.{IsBegun}
use Rattle.session.proofs.Queried.{path_told, refused_told, unreachable_told}
use Rattle.session.proofs.telling.tell_from.Goals as goal

pub write_moves-requires-clause-few : goal.write_moves-requires-clause-few
write_moves-requires-clause-few c =
    let begins = subst (IsBegun c.args.version.now c.args.start c.args.goal) c.in-Ok-Some.field-0-is c.in-Ok-Some.ensures.walk in
    (begins.moves, begins.ahead, begins.few)

pub returns-in-Ok-Some : goal.returns-in-Ok-Some
returns-in-Ok-Some c =
    path_told c.args.version.now c.args.start c.args.goal c.in-Ok-Some.walk c.write_moves.result _ c.write_moves.new.room c.in-Ok-Some.ensures.ends
    (subst (IsBegun c.args.version.now c.args.start c.args.goal) c.in-Ok-Some.field-0-is c.in-Ok-Some.ensures.walk)
    c.write_moves.ensures.cost c.write_moves.ensures.moves (ap (λ p. reply.Path p c.write_moves.result) c.prefix-prefix.ensures)

pub returns-in-Ok-None : goal.returns-in-Ok-None
returns-in-Ok-None c =
    unreachable_told c.args.version.now c.args.start c.args.goal _ c.args.room.now c.in-Ok-None.ensures.ends
    (subst (IsBegun c.args.version.now c.args.start c.args.goal) c.in-Ok-None.field-0-is c.in-Ok-None.ensures.walk)
    (ap reply.Unreachable c.prefix-prefix.ensures) c.requires.none

pub returns-in-Err : goal.returns-in-Err
returns-in-Err c =
    refused_told c.args.version.now c.args.start c.args.goal c.in-Err.why _ c.args.room.now c.in-Err.ensures.refused
    (ap₂ reply.Refused c.prefix-prefix.ensures c.why_of.ensures) c.requires.none
