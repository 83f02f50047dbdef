use Rattle.std.proofs.Common.{◌||◌, false, [], ap, refl, subst, sym, ◌∙◌}
use Rattle.query_proto.specs.declared.requests.Request.TheVariants as request
use Rattle.session.specs.Builders.{HasBuilt}
use Rattle.session.specs.Served.{Serves, ServesRequest}
use Rattle.session.specs.Standing.{HoldsItsOwn, stands}
use Rattle.session.proofs.Ringing.{built_more, built_none}
use Rattle.session.proofs.builder.build_loop.Goals as goal

pub loop-init : goal.loop-init
loop-init g c =
    let place = (g.K.Desk.at c.args.desk.now).place in
    let old = stands (g.K.Desk.at c.args.desk.now) in
    let rung = (g.E.Ear.at c.args.ear.now).rung in
    (subst (λ t. HasBuilt place old t rung old rung) (sym c.none-totals.ensures) (built_none place old rung), refl, c.requires.waiting)

pub loop-preserved : goal.loop-preserved
loop-preserved g c =
    let place = (g.K.Desk.at c.args.desk.now).place in
    let old = stands (g.K.Desk.at c.args.desk.now) in
    let mid = stands (g.K.Desk.at c.loop.desk) in
    let new = stands (g.K.Desk.at c.answer_build-reply.new.desk) in
    let told = c.answer_build-reply.result in
    let inv = c.loop.invariant in
    let then = c.answer_build-reply.ensures in
    let serves : ServesRequest place request.Build mid told [] new = record {
      served = subst (λ p. Serves p request.Build mid told [] new) inv.1 then.served;
      holds = then.holds;
      own = subst (λ p. HoldsItsOwn p new) (then.called.place ∙ inv.1) c.held.ensures.own;
      looks = then.called.looks;
    } in (
      built_more place old c.loop.totals (g.E.Ear.at c.args.ear.now).rung mid (g.E.Ear.at c.loop.ear).rung told new c.with-totals.result
          (g.E.Ear.at c.wait.new.self).rung inv.0 serves c.with-totals.ensures (ap (λ ear. ear.rung) c.in-Rung.ensures.heard),
      then.called.place ∙ inv.1,
      ap (λ ear. ear.over) c.in-Rung.ensures.heard ∙ ap (λ b. b || false) inv.2,
    )

pub returns-in-Shut-clause-place : goal.returns-in-Shut-clause-place
returns-in-Shut-clause-place g c = c.loop.invariant.1

pub returns-in-Shut-clause-built : goal.returns-in-Shut-clause-built
returns-in-Shut-clause-built g c =
    subst (HasBuilt _ _ c.loop.totals _ (stands (g.K.Desk.at c.loop.desk)))
    (sym (ap (λ ear. ear.rung) c.in-Shut.ensures.heard)) c.loop.invariant.0
