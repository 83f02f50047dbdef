use Rattle.std.proofs.Common.{subst}
use Rattle.session.specs.Answering.{TellsBy}
use Rattle.session.proofs.Queried.{lacking_told, query_told}
use Rattle.session.proofs.telling.tell_query.Goals as goal

pub returns-then-not-holds_published-clause-tells : goal.returns-then-not-holds_published-clause-tells
returns-then-not-holds_published-clause-tells g c =
    let then = c.holds_published.ensures in
    lacking_told _ c.args.start c.args.goal c.holds_published.result _ then.called then.freshens c.told_at.result.reply c.args.room.now
    c.if-not-holds_published.true c.told_at.ensures.own c.told_at.ensures.reply c.requires.none

pub returns-clause-tells : goal.returns-clause-tells
returns-clause-tells g c =
    let then = c.holds_published.ensures in
    query_told _ c.args.start c.args.goal c.holds_published.result _ then.called then.freshens c.tell_from.result c.tell_from.new.room
    c.if-not-holds_published.false c.held.ensures.sound
    (subst (λ v. TellsBy v c.args.start c.args.goal c.tell_from.result c.tell_from.new.room) c.held.ensures.version c.tell_from.ensures)
