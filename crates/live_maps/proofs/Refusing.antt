-- Ends that a live map refuses.
use Rattle.std.proofs.Common.{◌≡◌, true, refl, sym, ◌∙◌}
use Rattle.std.proofs.lemmas.Bool.{false≢true}
use Rattle.moves.specs.declared.Cell.{Cell}
use Rattle.moves.specs.Maps.{IsPassable, place_of}
use Rattle.versions.specs.declared.query.End.{End}
use Rattle.versions.specs.declared.query.End.TheVariants.{Start, Goal}
use Rattle.versions.specs.declared.query.QueryRefusal.{QueryRefusal}
use Rattle.versions.specs.declared.query.QueryRefusal.TheVariants.{Outside, Blocked}
use Rattle.versions.specs.Databases.{Versioned}
use Rattle.versions.specs.Queries.{IsEndRefusal, IsRefusal}
use Rattle.path_image.specs.Images.{IsImageOf}
use Rattle.path_image.specs.Reading.{IsCellIn, width_in}
use Rattle.path_image.proofs.Homes.{inside_map}
use Rattle.live_maps.specs.Live.{is_marked, live_map}
use Rattle.live_maps.specs.Told.{Living}
use Rattle.live_maps.proofs.Along.{clear_passable}
use Rattle.live_maps.proofs.Blocking.{inside_before, inside_now, passable_before}

module _ (live : Living) (version : Versioned) (image : IsImageOf live.words version) where
  -- what the map refuses, the live map refuses
  pub end_refused : (cell : Cell) (which : End) (why : QueryRefusal) → IsEndRefusal version.map cell which why
      → IsEndRefusal (live_map version.map live.bits) cell which why
  end_refused cell which (Outside end) refused = (refused.0, λ inside. refused.1 (inside_before version.map live.bits cell inside))
  end_refused cell which (Blocked end) refused = (
    refused.0,
    inside_now version.map live.bits cell refused.1,
    λ free. refused.2 (passable_before version.map live.bits cell free),
  )

  -- and a cell whose bit is set
  pub marked_refused : (cell : Cell) (which : End) → IsCellIn live.words cell → is_marked live.bits (place_of (width_in live.words) cell) ≡ true
      → IsEndRefusal (live_map version.map live.bits) cell which (Blocked which)
  marked_refused cell which inside marked = (
    refl,
    inside_now version.map live.bits cell (inside_map live.words version image cell inside),
    λ free. false≢true (sym (clear_passable live version image cell free) ∙ marked),
  )

  pub start_refused : (start goal : Cell) (why : QueryRefusal) → IsEndRefusal (live_map version.map live.bits) start Start why
      → IsRefusal (live_map version.map live.bits) start goal why
  start_refused start goal (Outside Start) refused = refused.1
  start_refused start goal (Blocked Start) refused = (refused.1, refused.2)
  start_refused start goal (Outside Goal) refused = absurd (apart refused.0)
    where
      apart : Goal ≡ Start → ⊥
      apart e = cc
  start_refused start goal (Blocked Goal) refused = absurd (apart refused.0)
    where
      apart : Goal ≡ Start → ⊥
      apart e = cc

  pub goal_refused : (start goal : Cell) (why : QueryRefusal) → IsPassable (live_map version.map live.bits) start
      → IsEndRefusal (live_map version.map live.bits) goal Goal why → IsRefusal (live_map version.map live.bits) start goal why
  goal_refused start goal (Outside Goal) free refused = (free, refused.1)
  goal_refused start goal (Blocked Goal) free refused = (free, refused.1, refused.2)
  goal_refused start goal (Outside Start) free refused = absurd (apart refused.0)
    where
      apart : Start ≡ Goal → ⊥
      apart e = cc
  goal_refused start goal (Blocked Start) free refused = absurd (apart refused.0)
    where
      apart : Start ≡ Goal → ⊥
      apart e = cc
