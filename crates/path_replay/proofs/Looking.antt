-- A look, and the build that it begins.
use Rattle.std.proofs.Common.{◌≡◌, ◌≢◌, ℕ, List, drop, Option, Some, IfSome, refl, sym, ap, subst, ◌∙◌, arith}
use Rattle.edit_log.specs.declared.edit.Edit.{Edit}
use Rattle.edit_log.specs.Edits.{map_after}
use Rattle.versions.specs.Databases.{Versioned, IsVersion}
use Rattle.versions.specs.Counts.{AreCounts}
use Rattle.version_build.specs.Plans.{Planned}
use Rattle.version_build.specs.Builders.{Building}
use Rattle.path_core.specs.Boards.{Boarded, MayBePublished}
use Rattle.path_core.specs.Histories.{accepted_count, edits_of, map_at, published_prefix, IsLegal, IsVersionAt}
use Rattle.path_core.proofs.Bounds.{counted}
use Rattle.path_core.proofs.Growing.{map_at_all}
use Rattle.path_replay.specs.Replays.{IsJob}
use Rattle.path_replay.specs.Inside.{Holding, standing_of, IsOpen, IsSound}
use Rattle.path_replay.proofs.Holdings.{job_leads}

-- the pass holds the published version
pub look_sound : (board : Boarded) (old new : Holding) → IsLegal board.start board.history
    → IsVersionAt board.start board.order board.history (published_prefix board.history) board.version → IsSound board old
    → new.version ≡ board.version → new.building ≡ old.building → IsSound board new
look_sound board old new legal is sound version building =
    let at : IsVersionAt board.start board.order board.history board.version.prefix board.version =
    record { map = is.map ∙ ap (map_at board.start board.history) (sym is.after); after = refl; order = is.order; whole = is.whole } in
    record {
      version = rw version at;
      within = rw (version, is.after) (counted board.start board.history legal).prefix;
      building = rw building sound.building;
    }

module _ (board : Boarded) (now : Holding) (sound : IsSound board now) (published : now.version.prefix ≡ published_prefix board.history)
    (held : ℕ) (held_is : held ≡ now.version.prefix) where
  held_published : held ≡ published_prefix board.history
  held_published = held_is ∙ published

  pub map_is : now.version.map ≡ map_at board.start board.history held
  map_is = sound.version.map ∙ ap (map_at board.start board.history) (sym held_is)

  module _ (plan : Planned) (builder : Building) (after : Holding) (prefix rows : ℕ) (edits : List Edit)
      (all : prefix ≡ accepted_count board.history) (edits_are : edits ≡ drop held (edits_of board.history))
      (map_plan : plan.map ≡ map_after now.version.map edits) (prefix_plan : plan.prefix ≡ prefix)
      (plan_is : builder.plan ≡ plan) (left_is : builder.left ≡ plan.built) (version_is : after.version ≡ now.version) (building_is : after.building ≡ Some builder)
    where
      plan_map : plan.map ≡ map_at board.start board.history prefix
      plan_map = map_plan ∙ job_leads board now.version.map held edits map_is edits_are ∙ sym (map_at_all board.start board.history)
          ∙ ap (map_at board.start board.history) (sym all)

      pub begun_job : rows ≡ plan.built → prefix ≢ held → AreCounts now.version.map plan.map plan.built plan.kept
          → IsJob board.start board.history prefix rows (standing_of after)
      begun_job rows_are other counts = record {
        new = λ same. other (all ∙ sym same ∙ sym held_published);
        all = all;
        kept = plan.kept;
        counts = rw (rows_are, ← published, ← sound.version.map, ← plan_map) counts;
        begun = rw (version_is, building_is, published, plan_is, left_is, prefix_plan, rows_are) refl;
      }

      pub begun_sound : plan.order ≡ now.version.order → IsSound board after
      begun_sound order = record {
        version = rw version_is sound.version;
        within = rw version_is sound.within;
        building = rw building_is (record {
          map = ap (λ (p : Planned). p.map) plan_is ∙ plan_map ∙ ap (map_at board.start board.history) (sym prefix_plan ∙ sym (ap (λ (p : Planned). p.prefix) plan_is));
          order = ap (λ (p : Planned). p.order) plan_is ∙ order ∙ sound.version.order;
          within = omega (arith, ap (λ (p : Planned). p.prefix) plan_is, prefix_plan, all);
        });
      }

-- what was built may be published
pub may_publish : (board : Boarded) (builder : Building) (version : Versioned) → IsOpen board builder → IsVersion version
    → version.map ≡ builder.plan.map → version.prefix ≡ builder.plan.prefix → version.order ≡ builder.plan.order
    → MayBePublished board.start board.order board.history version
may_publish board builder version are whole map prefix order = record {
  accepted = omega (arith, prefix, are.within);
  is = record { map = map ∙ are.map ∙ ap (map_at board.start board.history) (sym prefix); after = refl; order = order ∙ are.order; whole = whole };
}

-- what is built is sound where something is built
pub open_if_some : (board : Boarded) (building : Option Building) (builder : Building) → building ≡ Some builder → IfSome building (IsOpen board) → IsOpen board builder
open_if_some board building builder is all = subst (λ b. IfSome b (IsOpen board)) is all
