use Rattle.std.proofs.Common.{subst}
use Rattle.session.specs.Answering.{AnswersBy}
use Rattle.session.proofs.Queried.{lacking_answered, query_answered}
use Rattle.session.proofs.answers.answer_query.Goals as goal

pub returns-then-not-holds_published-clause-answers : goal.returns-then-not-holds_published-clause-answers
returns-then-not-holds_published-clause-answers g c =
    let then = c.holds_published.ensures in
    let told = c.told_at.ensures in
    lacking_answered _ c.args.start c.args.goal c.holds_published.result _ then.called then.freshens c.told_at.result
    c.if-not-holds_published.true told.own told.reply told.path

pub returns-clause-answers : goal.returns-clause-answers
returns-clause-answers g c =
    let then = c.holds_published.ensures in
    query_answered _ c.args.start c.args.goal c.holds_published.result _ then.called then.freshens c.answer_from.result
    c.if-not-holds_published.false c.held.ensures.sound
    (subst (λ v. AnswersBy v c.args.start c.args.goal c.answer_from.result) c.held.ensures.version c.answer_from.ensures)
