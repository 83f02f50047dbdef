-- What a build gets.
use Rattle.std.proofs.Common.{◌≡◌, ◌<◌, ℕ, IsFalse, inl, inr, [], ◌∷◌, ◌++◌, refl, sym, subst, ap, ◌∙◌, arith}
use Rattle.std.proofs.lemmas.Bool.{cases_lt}
use Rattle.moves.specs.Maps.{IsSearchable}
use Rattle.edit_log.specs.Edits.{EditsInside, map_after}
use Rattle.versions.specs.Counts.{AreCounts}
use Rattle.versions.specs.Databases.{Versioned}
use Rattle.version_build.specs.declared.plans.BuildReport.{BuildReport}
use Rattle.path_core.specs.declared.entry.Entry.TheVariants.{Publish}
use Rattle.path_core.specs.declared.board.Job.{Job}
use Rattle.path_core.specs.declared.board.Look.{Look}
use Rattle.path_core.specs.Boards.{MayBePublished}
use Rattle.path_core.specs.Histories.{accepted_count, map_at, map_now, published_prefix, IsLegal, IsVersionAt}
use Rattle.path_core.specs.Passes.{BeginsWith}
use Rattle.path_core.proofs.Bounds.{legal_histories_are_bounded}
use Rattle.path_core.proofs.Growing.{map_at_all, prefix_goes_on}
use Rattle.path_core.proofs.Passing.{begins_then, count_grows, job_inside, job_leads, map_now_searchable}
use Rattle.query_proto.specs.declared.replies.Reply.TheVariants as reply
use Rattle.query_proto.specs.declared.requests.Request.TheVariants as request
use Rattle.session.specs.Answering.{ServesAt}
use Rattle.session.specs.Building.{IsBuiltAfter, IsTaken, TakesNone}
use Rattle.session.specs.Desks.{AddsNone, IsPublished, Looks, MayPublish}
use Rattle.session.specs.Served.{BuildsVersion, HasNothingNew}
use Rattle.session.specs.Standing.{AtDesk, IsSound, Meanwhile, Place}
use Rattle.session.proofs.Meanwhile.{enters_begin, meanwhile_begin, meanwhile_then}

pub nothing_new : (old now : AtDesk) (job : Job) → IsTaken old now job → job.prefix ≡ now.version.prefix
    → HasNothingNew old.place old.seen now.seen job.prefix
nothing_new old now job taken same = record {
  others = meanwhile_then old.place old.seen taken.looked now.seen taken.to_look taken.to_job;
  at = taken.looked;
  later = meanwhile_begin old.place old.seen taken.looked taken.to_look;
  earlier = meanwhile_begin old.place taken.looked now.seen taken.to_job;
  published = same ∙ taken.held_is;
  accepted = taken.edits.prefix;
}

module _ (old now : AtDesk) (job : Job) (same : now.place ≡ old.place) (sound : IsSound now) (taken : IsTaken old now job) where
  -- the version that is held, at the place from before
  held_is : IsVersionAt old.place.start old.place.order now.seen now.version.prefix now.version
  held_is = subst (λ (place : Place). IsVersionAt place.start place.order now.seen now.version.prefix now.version) same sound.is

  -- the edits of the job lie inside the held map, and the map after them may be searched
  pub taken_inside : EditsInside now.version.map job.edits.edits
  taken_inside = rw (held_is.map, taken.edits.edits) (job_inside old.place.start now.seen now.version.prefix taken.edits.legal)

  taken_map : map_after now.version.map job.edits.edits ≡ map_now old.place.start now.seen
  taken_map = rw (held_is.map, taken.edits.edits) (job_leads old.place.start now.seen now.version.prefix)

  pub taken_searchable : IsSearchable (map_after now.version.map job.edits.edits)
  taken_searchable =
      subst IsSearchable (sym taken_map)
      (map_now_searchable old.place.start now.seen now.version.prefix taken.edits.legal sound.within
      (subst IsSearchable held_is.map held_is.whole.searchable))

  -- more edits are accepted than the held version has
  taken_more : (job.prefix ≡ now.version.prefix → ⊥) → now.version.prefix < accepted_count now.seen
  taken_more other =
      let all = taken.edits.prefix in
      let within = sound.within in
      elim (cases_lt now.version.prefix (accepted_count now.seen)) [
        | inl lower ↦ lower
        | inr same ↦ absurd (other (omega (arith, all, within, same)))
      ]

  -- no version was built or published
  pub no_memory : (new : AtDesk) → (job.prefix ≡ now.version.prefix → ⊥) → AddsNone now new → new.version ≡ now.version
      → ServesAt old request.Build reply.NoMemory new
  no_memory new other others kept =
      let more = taken_more other in
      let then = subst (λ (place : Place). Meanwhile place now.seen new.seen) same others in
      let grown = count_grows now.seen new.seen (meanwhile_begin old.place now.seen new.seen then) in
      let first = meanwhile_then old.place old.seen taken.looked now.seen taken.to_look taken.to_job in
      let lower : now.version.prefix < accepted_count new.seen = omega (arith, more, grown) in
      ((meanwhile_then old.place old.seen now.seen new.seen first then, subst (λ (v : Versioned). v.prefix < accepted_count new.seen) (sym kept) lower), refl)

  module _ (next : Versioned) (report : BuildReport) (made : IsBuiltAfter now.version job report next) where
    built_prefix : next.prefix ≡ accepted_count now.seen
    built_prefix = made.prefix ∙ taken.edits.prefix

    built_map : next.map ≡ map_at old.place.start now.seen next.prefix
    built_map = made.map ∙ taken_map ∙ sym (map_at_all old.place.start now.seen) ∙ ap (map_at old.place.start now.seen) (sym built_prefix)

    pub may_publish : MayPublish now next
    may_publish =
        let there : MayBePublished old.place.start old.place.order now.seen next = record {
          accepted = omega (arith, built_prefix);
          is = record { map = built_map; after = refl; order = made.order ∙ held_is.order; whole = made.whole };
        } in subst (λ (place : Place). MayBePublished place.start place.order now.seen next) (sym same) there

    pub builds_version : (new : AtDesk) → (job.prefix ≡ now.version.prefix → ⊥) → IsPublished now new next.prefix
        → BuildsVersion old.place old.seen new.seen next.prefix report.built report.kept
    builds_version new other published = record {
      looked = taken.looked;
      taken = now.seen;
      between = published.between;
      to_look = taken.to_look;
      to_job = taken.to_job;
      to_publish = subst (λ (place : Place). Meanwhile place now.seen published.between) same published.others;
      own = published.own ∙ ap (λ (place : Place). published.between ++ Publish place.pass next.prefix ∷ []) same;
      all = built_prefix;
      newer = let more = taken_more other in omega (arith, more, built_prefix, taken.held_is);
      newest = published.newer;
      counts = subst (λ m. AreCounts (map_at old.place.start now.seen (published_prefix taken.looked)) m report.built report.kept) built_map
          (subst (λ m. AreCounts m next.map report.built report.kept) (held_is.map ∙ ap (map_at old.place.start now.seen) taken.held_is) made.counts);
    }

-- the version that was published is the one that is held
pub published_held : (old new : AtDesk) (prefix : ℕ) → IsPublished old new prefix → prefix ≡ published_prefix new.seen
published_held old new prefix p = sym (ap published_prefix p.own ∙ prefix_goes_on p.between (Publish old.place.pass prefix))

pub taken_begins : (old now : AtDesk) (job : Job) → IsTaken old now job → BeginsWith now.seen old.seen
taken_begins old now job taken =
    begins_then old.seen taken.looked now.seen (meanwhile_begin old.place old.seen taken.looked taken.to_look)
    (meanwhile_begin old.place taken.looked now.seen taken.to_job)

pub published_begins : (old new : AtDesk) (prefix : ℕ) → IsPublished old new prefix → BeginsWith new.seen old.seen
published_begins old new prefix p =
    enters_begin old.place (Publish old.place.pass prefix) old.seen new.seen (record { between = p.between; others = p.others; own = p.own })

-- a version that could not be taken
pub look_none : (old new : AtDesk) (look : Look) → Looks old new look → IsFalse look.held → TakesNone old new
look_none old new look p lacks =
    let bounded = legal_histories_are_bounded old.place.start new.seen p.legal in
    let kept = p.kept lacks in
    let prefix : new.version.prefix ≡ old.version.prefix = ap (λ (v : Versioned). v.prefix) kept.0 in
    record {
      others = p.others;
      more = omega (arith, prefix, kept.1, bounded.published);
    }

-- what a board knows of its published version
pub board_sound : (desk : AtDesk) → IsLegal desk.place.start desk.seen
    → IsVersionAt desk.place.start desk.place.order desk.seen (published_prefix desk.seen) desk.version → IsSound desk
board_sound desk legal is =
    let bounded = legal_histories_are_bounded desk.place.start desk.seen legal in
    record {
      is = subst (λ k. IsVersionAt desk.place.start desk.place.order desk.seen k desk.version) (sym is.after) is;
      within = omega (arith, is.after, bounded.published);
    }
