use Rattle.std.proofs.Common.{◌≡◌, ◌∙◌, ap, refl, subst, sym}
use Rattle.std.specs.Arc.{arc_value}
use Rattle.moves.specs.Maps.{IsSearchable}
use Rattle.edit_log.specs.Edits.{EditsInside, map_after}
use Rattle.versions.specs.Databases.{Versioned}
use Rattle.path_core.proofs.Passing.{begins_then}
use Rattle.session.specs.Building.{IsBuiltAfter}
use Rattle.session.specs.Desks.{IsPublished, IsNotPublished}
use Rattle.session.specs.Served.{BuildsVersion}
use Rattle.session.proofs.Builds.{builds_version, may_publish, no_memory, nothing_new, published_begins, published_held, taken_begins, taken_inside, taken_searchable}
use Rattle.session.proofs.Holding.{holds_either, holds_later}
use Rattle.session.proofs.Meanwhile.{meanwhile_begin, meanwhile_none}
use Rattle.session.proofs.building.build_and_publish.Goals as goal
use Rattle.session.proofs.building.build_and_publish.Goals.{After-prefix}

-- the prefix of the version that is held, as it was read
same : (g : _) (c : After-prefix g) → c.prefix.result ≡ (g.K.Desk.at c.take_job.new.desk).version.prefix
same g c = c.prefix.ensures ∙ ap (λ (v : Versioned). v.prefix) c.held-held.ensures.version

pub returns-then-job-prefix-clause-served : goal.returns-then-job-prefix-clause-served
returns-then-job-prefix-clause-served g c =
    let at = (goal.at.returns-then-job-prefix-clause-served g c).After-prefix in
    (nothing_new _ _ c.in-Ok.job c.in-Ok.ensures.taken (c.if-job-prefix.true ∙ same g at), refl)

pub build_after-requires-clause-inside : goal.build_after-requires-clause-inside
build_after-requires-clause-inside g c =
    λ lives outlives.
    subst (λ v. EditsInside v.map c.in-Ok.job.edits.edits) (sym c.held-held.ensures.version)
    (taken_inside _ _ c.in-Ok.job c.take_job.ensures.called.place c.held-held.ensures.sound c.in-Ok.ensures.taken)

pub build_after-requires-clause-searchable : goal.build_after-requires-clause-searchable
build_after-requires-clause-searchable g c =
    λ lives outlives.
    subst (λ v. IsSearchable (map_after v.map c.in-Ok.job.edits.edits)) (sym c.held-held.ensures.version)
    (taken_searchable _ _ c.in-Ok.job c.take_job.ensures.called.place c.held-held.ensures.sound c.in-Ok.ensures.taken)

pub returns-in_default-build_after-clause-served : goal.returns-in_default-build_after-clause-served
returns-in_default-build_after-clause-served g c =
    let at = (goal.at.returns-in_default-build_after-clause-served g c).After-prefix in
    let now = g.K.Desk.at c.take_job.new.desk in
    no_memory _ now c.in-Ok.job c.take_job.ensures.called.place c.held-held.ensures.sound c.in-Ok.ensures.taken now
    (λ e. c.if-job-prefix.false (e ∙ sym (same g at))) (meanwhile_none now.place now.seen) refl

pub publish-requires : goal.publish-requires
publish-requires g c =
    let next = arc_value c.in-Ok-build_after.next in
    let report = c.in-Ok-build_after.report in
    let made = subst (λ v. IsBuiltAfter v c.in-Ok.job report next) c.held-held.ensures.version c.in-Ok-build_after.ensures in
    record {
      may = may_publish _ _ c.in-Ok.job c.take_job.ensures.called.place c.held-held.ensures.sound c.in-Ok.ensures.taken next report made;
    }

pub returns-in-Ok-publish-clause-holds : goal.returns-in-Ok-publish-clause-holds
returns-in-Ok-publish-clause-holds g c =
    let old = g.K.Desk.at c.args.desk.now in
    let now = g.K.Desk.at c.take_job.new.desk in
    let new = g.K.Desk.at c.publish.new.self in
    let prefix = c.in-Ok-publish.prefix in
    let published = c.in-Ok-publish.ensures.published in
    let begins = published_begins now new prefix published in
    let grown = begins_then old.seen now.seen new.seen (taken_begins old now c.in-Ok.job c.in-Ok.ensures.taken) begins in
    holds_either old now new (arc_value c.in-Ok-build_after.next) c.take_job.ensures.holds c.in-Ok-publish.ensures.held begins grown
    (sym c.in-Ok-publish.ensures.prefix ∙ published_held now new prefix published)

pub returns-in-Ok-publish-clause-served : goal.returns-in-Ok-publish-clause-served
returns-in-Ok-publish-clause-served g c =
    let at = (goal.at.returns-in-Ok-publish-clause-served g c).After-prefix in
    let old = g.K.Desk.at c.args.desk.now in
    let now = g.K.Desk.at c.take_job.new.desk in
    let new = g.K.Desk.at c.publish.new.self in
    let next = arc_value c.in-Ok-build_after.next in
    let report = c.in-Ok-build_after.report in
    let made = subst (λ v. IsBuiltAfter v c.in-Ok.job report next) c.held-held.ensures.version c.in-Ok-build_after.ensures in
    let prefix = c.in-Ok-publish.ensures.prefix in (
      subst (λ k. BuildsVersion old.place old.seen new.seen k report.built report.kept) (sym prefix)
          (builds_version old now c.in-Ok.job c.take_job.ensures.called.place c.held-held.ensures.sound c.in-Ok.ensures.taken next report made new
          (λ e. c.if-job-prefix.false (e ∙ sym (same g at))) (subst (IsPublished now new) prefix c.in-Ok-publish.ensures.published)),
      refl,
    )

pub returns-clause-holds : goal.returns-clause-holds
returns-clause-holds g c =
    let old = g.K.Desk.at c.args.desk.now in
    let now = g.K.Desk.at c.take_job.new.desk in
    let new = g.K.Desk.at c.publish.new.self in
    let next = arc_value c.in-Ok-build_after.next in
    let refused = subst (IsNotPublished now new next.prefix) c.in-Err-NoMemory.field-0-is c.in-Err-NoMemory.ensures.refused in
    holds_later old now new c.take_job.ensures.holds c.in-Err-NoMemory.ensures.kept (meanwhile_begin now.place now.seen new.seen refused.0)

pub returns-clause-served : goal.returns-clause-served
returns-clause-served g c =
    let at = (goal.at.returns-clause-served g c).After-prefix in
    let now = g.K.Desk.at c.take_job.new.desk in
    let new = g.K.Desk.at c.publish.new.self in
    let next = arc_value c.in-Ok-build_after.next in
    let refused = subst (IsNotPublished now new next.prefix) c.in-Err-NoMemory.field-0-is c.in-Err-NoMemory.ensures.refused in
    no_memory _ now c.in-Ok.job c.take_job.ensures.called.place c.held-held.ensures.sound c.in-Ok.ensures.taken new
    (λ e. c.if-job-prefix.false (e ∙ sym (same g at))) refused.0 c.in-Err-NoMemory.ensures.kept
