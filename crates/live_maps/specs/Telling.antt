-- A walk under way that is told as far as it is free.
use Rattle.std.specs.Prelude.{◌≡◌, ℕ, ◌++◌, false, List, ◌∷◌, length, map}
use Rattle.moves.specs.declared.Cell.{Cell}
use Rattle.moves.specs.declared.Move.{Move}
use Rattle.moves.specs.FirstSetLists.{cell_of}
use Rattle.moves.specs.Maps.{place_of}
use Rattle.moves.specs.Moves.{HasLegal, number_of}
use Rattle.moves.specs.Paths.{Leads}
use Rattle.versions.specs.Databases.{Versioned, comp_at}
use Rattle.path_image.specs.declared.walking.Walk.{Walk}
use Rattle.path_image.specs.Answers.{overwritten}
use Rattle.path_image.specs.Reading.{width_in}
use Rattle.path_image.specs.Walks.{IsAhead}
use Rattle.live_maps.specs.declared.live_image.Told.{Told}
use Rattle.live_maps.specs.declared.live_image.Told.TheVariants.{Whole, Front, Lost}
use Rattle.live_maps.specs.Live.{is_marked, live_map}
use Rattle.live_maps.specs.Told.{Living}

-- all moves are a path of the live map, and stand in the room
pub record TellsWhole (version : Versioned) (bits : List ℕ) (walk : Walk) (moves : List Move) (old new : List ℕ) (count : ℕ) : Type 0 where
  pub leads : Leads (live_map version.map bits) walk.at moves (cell_of (comp_at version.comps walk.home.label).cells walk.goal)
  pub long : count ≡ length moves
  pub room : new ≡ overwritten old (map number_of moves)

-- the first moves are, and the next one is not legal there
pub record TellsFront (version : Versioned) (bits : List ℕ) (walk : Walk) (moves : List Move) (old new : List ℕ) (count : ℕ) : Type 0 where
  pub front : List Move
  pub next : Move
  pub rest : List Move
  pub whole : moves ≡ front ++ next ∷ rest
  pub at : Cell
  pub leads : Leads (live_map version.map bits) walk.at front at
  pub closed : HasLegal (live_map version.map bits) at next → ⊥
  pub long : count ≡ length front
  pub room : new ≡ overwritten old (map number_of front)

abbrev pub IsToldOf : Versioned → List ℕ → Walk → List Move → List ℕ → List ℕ → Told → Type 0
IsToldOf version bits walk moves old new (Whole count) = TellsWhole version bits walk moves old new count
IsToldOf version bits walk moves old new (Front count) = TellsFront version bits walk moves old new count
IsToldOf version bits walk moves old new Lost = ⊥

-- over a version, this is told of the moves that are ahead of a walk which stands on a cell without a bit
abbrev pub IsToldAhead : Living → Walk → List ℕ → List ℕ → Told → Type 0
IsToldAhead live walk old new told =
    (version : Versioned) (moves : List Move) → IsAhead live.words version walk moves
    → is_marked live.bits (place_of (width_in live.words) walk.at) ≡ false → IsToldOf version live.bits walk moves old new told
