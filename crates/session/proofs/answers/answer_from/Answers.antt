use Rattle.moves.specs.Paths.{IsLeastCost}
use Rattle.std.proofs.Common.{Some, ◌∙◌, ap₂, subst, sym}
use Rattle.query_proto.specs.declared.replies.Reply.TheVariants as reply
use Rattle.session.specs.Answering.{AnswersBy}
use Rattle.session.proofs.Queried.{path_answered, refused_answered}
use Rattle.session.proofs.answers.answer_from.Goals as goal

pub returns-in-Ok-Some : goal.returns-in-Ok-Some
returns-in-Ok-Some c =
    subst (λ p. AnswersBy c.args.version.now c.args.start c.args.goal
    (record { reply = reply.Path p c.in-Ok-Some.cost; path = Some (record { start = c.args.start; goal = c.args.goal }) })) (sym c.prefix-prefix.ensures)
    (path_answered c.args.version.now c.args.start c.args.goal c.in-Ok-Some.cost c.grid.ensures.version c.in-Ok-Some.ensures.ends
    (subst (IsLeastCost c.args.version.now.map c.args.start c.args.goal) c.in-Ok-Some.field-0-is c.in-Ok-Some.ensures.cost))

pub returns-in-Err : goal.returns-in-Err
returns-in-Err c =
    refused_answered c.args.version.now c.args.start c.args.goal c.in-Err.why c.of-in-Err.result c.in-Err.ensures.refused
    (c.of-in-Err.ensures.reply ∙ ap₂ reply.Refused c.prefix-prefix.ensures c.why_of.ensures) c.of-in-Err.ensures.path
