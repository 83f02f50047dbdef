-- Walks under way over an image.
use Rattle.std.specs.Prelude.{◌≡◌, ℕ, ◌<◌, Bool, false, true, List, [], ◌∷◌, length, map, Option, Some, MatchOption}
use Rattle.moves.specs.declared.Cell.{Cell}
use Rattle.moves.specs.declared.Move.{Move}
use Rattle.moves.specs.declared.Move.TheVariants.{N, NE, E, SE, S, SW, W, NW}
use Rattle.moves.specs.Moves.{number_of, IsTarget}
use Rattle.moves.specs.Paths.{Reaches, Leads, cost_of}
use Rattle.root_cost.specs.declared.Cost.{Cost}
use Rattle.moves.specs.FirstSetLists.{cell_of}
use Rattle.row_store.specs.Comps.{IsPlaceOf}
use Rattle.versions.specs.Spelled.{Spells}
use Rattle.versions.specs.Databases.{Versioned, comp_at}
use Rattle.versions.specs.Answers.{IsWalk}
use Rattle.path_image.specs.declared.walking.Walk.{Walk}
use Rattle.path_image.specs.declared.walking.Step.{Step}
use Rattle.path_image.specs.declared.walking.Step.TheVariants.{Arrived, Go, Lost}
use Rattle.path_image.specs.Images.{IsImageOf}
use Rattle.path_image.specs.Answers.{overwritten, IsHomeIn, IsHomeOf}
use Rattle.path_image.specs.Reading.{IsCellIn, StandsIn, size_at, start_in}

-- the walk stands on a cell inside, at a place of a component, and its goal is a place of it too
pub record IsUnderWay (words : List ℕ) (walk : Walk) : Type 0 where
  pub inside : IsCellIn words walk.at
  pub here : StandsIn words walk.home.label walk.home.place
  pub goal : walk.goal < size_at words (start_in words walk.home.label)

-- over a version, these are the moves that are ahead: they are spelled from where the walk stands to its goal, they are legal, and
-- there are fewer of them than the component has cells
pub record IsAhead (words : List ℕ) (version : Versioned) (walk : Walk) (moves : List Move) : Type 0 where
  pub image : IsImageOf words version
  pub within : walk.home.label < length version.comps
  pub here : IsPlaceOf (comp_at version.comps walk.home.label).cells walk.at walk.home.place
  pub goal : walk.goal < length (comp_at version.comps walk.home.label).cells
  pub spelled : Spells (comp_at version.comps walk.home.label).cells (comp_at version.comps walk.home.label).rows walk.at moves
      (cell_of (comp_at version.comps walk.home.label).cells walk.goal)
  pub leads : Leads version.map walk.at moves (cell_of (comp_at version.comps walk.home.label).cells walk.goal)
  pub few : length moves < length (comp_at version.comps walk.home.label).cells

-- a step takes the first of the moves that are ahead, and none exactly where none is; it never gets lost
abbrev pub StepsTo : List ℕ → Versioned → Walk → List Move → Step → Type 0
StepsTo words version new moves Arrived = moves ≡ []
StepsTo words version new moves (Go move) = (rest : List Move) × (moves ≡ move ∷ rest) × IsAhead words version new rest
StepsTo words version new moves Lost = ⊥

abbrev pub Advances : List ℕ → Walk → Walk → Step → Type 0
Advances words old new step =
    (version : Versioned) (moves : List Move) → IsAhead words version old moves → StepsTo words version new moves step

-- the moves of the version's walk are ahead
pub record BeginsWalk (words : List ℕ) (version : Versioned) (start goal : Cell) (walk : Walk) : Type 0 where
  pub moves : List Move
  pub is : IsWalk version.map version.comps start goal moves
  pub ahead : IsAhead words version walk moves

-- no walk begins where no path exists in the version, and else that of the version
abbrev pub IsBegunIn : List ℕ → Cell → Cell → Option Walk → Type 0
IsBegunIn words start goal found =
    (version : Versioned) → IsImageOf words version
    → MatchOption found (Reaches version.map start goal → ⊥) (BeginsWalk words version start goal)

-- a step to a cell takes the move where the cell's place is one of the component, and else none
abbrev pub Enters : List ℕ → Walk → Walk → Move → Cell → Step → Type 0
Enters words old new move to Arrived = ⊥
Enters words old new move to (Go by) =
    (by ≡ move) × (new.at ≡ to) × (new.goal ≡ old.goal) × (new.home.label ≡ old.home.label) × IsHomeIn words to new.home
Enters words old new move to Lost =
    (version : Versioned) → IsImageOf words version → (place : ℕ) → IsHomeOf version to old.home.label place → ⊥

-- no cell inside is where the move leads
abbrev pub IsNoCellBehind : List ℕ → Cell → Move → Type 0
IsNoCellBehind words at move = (to : Cell) → IsTarget at move to → IsCellIn words to → ⊥

-- the move leads one column to the west
abbrev pub goes_west : Move → Bool
goes_west N = false
goes_west NE = false
goes_west E = false
goes_west SE = false
goes_west S = false
goes_west SW = true
goes_west W = true
goes_west NW = true

-- the move leads one row to the north
abbrev pub goes_north : Move → Bool
goes_north N = true
goes_north NE = true
goes_north E = false
goes_north SE = false
goes_north S = false
goes_north SW = false
goes_north W = false
goes_north NW = true

-- the cell has a column to the west of it, if the move leads there
pub record HasWest (at : Cell) (move : Move) : Type 0 where
  pub some : goes_west move ≡ true → 0 < at.x

-- the cell has a row to the north of it, if the move leads there
pub record HasNorth (at : Cell) (move : Move) : Type 0 where
  pub some : goes_north move ≡ true → 0 < at.y

-- the move leads to no cell at all
pub record LeadsBelow (at : Cell) (move : Move) : Type 0 where
  pub none : (to : Cell) → IsTarget at move to → ⊥

-- some cell is where the move leads
pub record HasTarget (at : Cell) (move : Move) : Type 0 where
  pub to : Cell
  pub target : IsTarget at move to

-- over a version, this is what the moves cost that are ahead
abbrev pub CostsAhead : List ℕ → Walk → Option Cost → Type 0
CostsAhead words walk found =
    (version : Versioned) (moves : List Move) → IsAhead words version walk moves → found ≡ Some (cost_of moves)

-- over a version, the moves that are ahead stand in the room, as far as it reaches, and so many they are
abbrev pub PutsAhead : List ℕ → Walk → List ℕ → List ℕ → Option ℕ → Type 0
PutsAhead words walk old new found =
    (version : Versioned) (moves : List Move) → IsAhead words version walk moves
    → (found ≡ Some (length moves)) × (new ≡ overwritten old (map number_of moves))
