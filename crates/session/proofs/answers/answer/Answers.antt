use Rattle.std.proofs.Common.{inl, refl}
use Rattle.query_proto.specs.declared.requests.Request.TheVariants as request
use Rattle.session.proofs.Holding.{holds_still}
use Rattle.session.proofs.Queried.{told_for}
use Rattle.session.proofs.answers.answer.Goals as goal

pub returns-in-Change-clause-answers : goal.returns-in-Change-clause-answers
returns-in-Change-clause-answers g c =
    let old = g.K.Desk.at c.args.desk.now in
    let new = g.K.Desk.at c.answer_change-reply.new.desk in
    let then = c.answer_change-reply.ensures in
    let told = c.told_at.ensures in
    told_for old c.args.request (request.Change c.in-Change.edit) c.answer_change-reply.result c.told_at.result new c.in-Change.is
    told.reply told.path refl then.called.place told.own then.served (holds_still old new then.called.version) then.called.looks

pub returns-in-Build-clause-answers : goal.returns-in-Build-clause-answers
returns-in-Build-clause-answers g c =
    let old = g.K.Desk.at c.args.desk.now in
    let new = g.K.Desk.at c.answer_build-reply.new.desk in
    let then = c.answer_build-reply.ensures in
    let told = c.told_at-in-Build.ensures in
    told_for old c.args.request request.Build c.answer_build-reply.result c.told_at-in-Build.result new c.in-Build.is
    told.reply told.path refl then.called.place told.own then.served then.holds then.called.looks

pub returns-in-Status-clause-answers : goal.returns-in-Status-clause-answers
returns-in-Status-clause-answers g c =
    let old = g.K.Desk.at c.args.desk.now in
    let new = g.K.Desk.at c.answer_status-reply.new.desk in
    let then = c.answer_status-reply.ensures in
    let told = c.told_at-in-Status.ensures in
    told_for old c.args.request request.Status c.answer_status-reply.result c.told_at-in-Status.result new c.in-Status.is
    told.reply told.path refl then.called.place told.own then.served then.holds then.called.looks

pub returns-in-Bye-clause-answers : goal.returns-in-Bye-clause-answers
returns-in-Bye-clause-answers g c =
    let at = g.K.Desk.at c.args.desk.now in
    let told = c.told_at-in-Bye.ensures in
    told_for at c.args.request request.Bye _ c.told_at-in-Bye.result at c.in-Bye.is told.reply told.path refl
    refl told.own (refl, refl, refl) (inl refl) tt

pub returns-in-Stop-clause-answers : goal.returns-in-Stop-clause-answers
returns-in-Stop-clause-answers g c =
    let old = g.K.Desk.at c.args.desk.now in
    let new = g.K.Desk.at c.answer_stop-reply.new.desk in
    let then = c.answer_stop-reply.ensures in
    let told = c.told_at-in-Stop.ensures in
    told_for old c.args.request request.Stop c.answer_stop-reply.result c.told_at-in-Stop.result new c.in-Stop.is
    told.reply told.path refl then.called.place told.own then.served (holds_still old new then.called.version) then.called.looks

pub returns-in-Hello-clause-answers : goal.returns-in-Hello-clause-answers
returns-in-Hello-clause-answers g c =
    let at = g.K.Desk.at c.args.desk.now in
    let told = c.told_at-in-Hello.ensures in
    told_for at c.args.request request.Hello _ c.told_at-in-Hello.result at c.in-Hello.is told.reply told.path refl
    refl told.own (refl, refl, refl) (inl refl) tt
