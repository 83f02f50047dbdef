use Rattle.std.proofs.Common.{◌≡◌, refl, ap, ◌∙◌}
use Rattle.path_replay.proofs.Holdings.{job_inside, job_leads}
use Rattle.path_replay.proofs.Looking.{map_is, begun_job, begun_sound}
use Rattle.path_replay.proofs.pass.Pass.begin.Goals as goal
use Rattle.path_replay.proofs.pass.Pass.begin.Goals.{After-prefix-held}

-- the prefix that was read is that of the version held
held_is : (c : After-prefix-held) → c.prefix-held.result ≡ c.look.new.self.version.prefix
held_is c = c.prefix-held.ensures ∙ ap (λ v. v.prefix) c.deref.ensures ∙ ap (λ (h : _). h.version.prefix) c.self-2.view_is

pub plan-requires-clause-inside : goal.plan-requires-clause-inside
plan-requires-clause-inside c =
    let held = held_is (goal.at.plan-requires-clause-inside c).After-prefix-held in
    job_inside c.args.board.now c.look.new.self.version.map c.prefix-held.result _ c.requires.replayable
    (map_is c.args.board.now c.look.new.self c.in_ok-look.ensures.sound c.in_ok-look.ensures.published _ held) c.in_ok-job.ensures.job.edits

pub plan-requires-clause-searchable : goal.plan-requires-clause-searchable
plan-requires-clause-searchable c =
    let held = held_is (goal.at.plan-requires-clause-searchable c).After-prefix-held in
    rw (job_leads c.args.board.now c.look.new.self.version.map c.prefix-held.result _
    (map_is c.args.board.now c.look.new.self c.in_ok-look.ensures.sound c.in_ok-look.ensures.published _ held) c.in_ok-job.ensures.job.edits)
    c.requires.replayable.searchable

pub returns-clause-reply : goal.returns-clause-reply
returns-clause-reply c =
    let held = held_is (goal.at.returns-clause-reply c).After-prefix-held in
    begun_job c.args.board.now c.look.new.self c.in_ok-look.ensures.sound c.in_ok-look.ensures.published c.prefix-held.result held
    c.in_ok-plan.plan c.in_ok-begin.field-0 _ c.in_ok-job.job.prefix c.rows-rows.result c.in_ok-job.job.edits.edits c.in_ok-job.ensures.job.prefix
    c.in_ok-job.ensures.job.edits c.in_ok-plan.ensures.map c.in_ok-plan.ensures.prefix c.in_ok-begin.ensures.plan c.in_ok-begin.ensures.left
    (ap (λ (h : _). h.version) c.self-2.view_is) refl c.rows-rows.ensures.rows c.if-job-held.false c.in_ok-plan.ensures.counts

pub returns-clause-sound : goal.returns-clause-sound
returns-clause-sound c =
    let held = held_is (goal.at.returns-clause-sound c).After-prefix-held in
    begun_sound c.args.board.now c.look.new.self c.in_ok-look.ensures.sound c.in_ok-look.ensures.published c.prefix-held.result held
    c.in_ok-plan.plan c.in_ok-begin.field-0 _ c.in_ok-job.job.prefix c.rows-rows.result c.in_ok-job.job.edits.edits c.in_ok-job.ensures.job.prefix
    c.in_ok-job.ensures.job.edits c.in_ok-plan.ensures.map c.in_ok-plan.ensures.prefix c.in_ok-begin.ensures.plan c.in_ok-begin.ensures.left
    (ap (λ (h : _). h.version) c.self-2.view_is) refl c.in_ok-plan.ensures.order
