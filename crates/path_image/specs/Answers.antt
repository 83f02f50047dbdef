-- What an image answers. Each says: of each version whose image the words are, so that of other words nothing is said.
use Rattle.std.specs.Prelude.{◌≡◌, ℕ, ◌<◌, ◌≤◌, List, [], ◌∷◌, ◌++◌, codes, length, map, Option, MatchOption}
use Rattle.std.specs.Fmt.{decimal}
use Rattle.root_cost.specs.declared.Cost.{Cost}
use Rattle.moves.specs.declared.Cell.{Cell}
use Rattle.moves.specs.declared.Move.{Move}
use Rattle.moves.specs.Maps.{IsPassable}
use Rattle.moves.specs.Moves.{number_of}
use Rattle.moves.specs.Paths.{Reaches, IsLeastCost}
use Rattle.row_store.specs.Comps.{IsPlaceOf, IsMoveOfRow}
use Rattle.versions.specs.declared.version.Next.{Next}
use Rattle.versions.specs.declared.query.End.{End}
use Rattle.versions.specs.declared.query.QueryRefusal.{QueryRefusal}
use Rattle.versions.specs.Databases.{Versioned, comp_at}
use Rattle.versions.specs.Queries.{AreEnds, IsEndRefusal, IsRefusal, refusal_text}
use Rattle.versions.specs.Answers.{IsNext, IsWalk}
use Rattle.path_image.specs.declared.reading.Home.{Home}
use Rattle.path_image.specs.declared.walking.WalkFault.{WalkFault}
use Rattle.path_image.specs.declared.walking.WalkFault.TheVariants.{Refused, Broken}
use Rattle.path_image.specs.declared.walking.PathFault.{PathFault}
use Rattle.path_image.specs.declared.walking.PathFault.TheVariants.{Unanswered, TooSmall}
use Rattle.path_image.specs.Images.{IsImageOf}

-- why there is no path, in words
abbrev pub walk_fault_text : WalkFault → List ℕ
walk_fault_text (Refused why) = refusal_text why
walk_fault_text Broken = codes "broken image"

-- why no whole path was written, in words
abbrev pub path_fault_text : PathFault → List ℕ
path_fault_text (Unanswered fault) = walk_fault_text fault
path_fault_text (TooSmall needed) = codes "room for too few moves of " ++ decimal needed

-- both cells are passable in the version
abbrev pub AreEndsIn : List ℕ → Cell → Cell → Type 0
AreEndsIn words start goal = (version : Versioned) → IsImageOf words version → AreEnds version.map start goal

-- the version refuses an end for that reason
abbrev pub IsEndRefusalIn : List ℕ → Cell → End → QueryRefusal → Type 0
IsEndRefusalIn words cell which why = (version : Versioned) → IsImageOf words version → IsEndRefusal version.map cell which why

-- the version refuses the two ends for that reason
abbrev pub IsRefusalIn : List ℕ → Cell → Cell → QueryRefusal → Type 0
IsRefusalIn words start goal why = (version : Versioned) → IsImageOf words version → IsRefusal version.map start goal why

-- so the path of the version goes on
abbrev pub IsNextIn : List ℕ → Cell → Cell → Next → Type 0
IsNextIn words at goal next = (version : Versioned) → IsImageOf words version → IsNext version at goal next

-- this is the least cost between two cells of the version's map, or there is no path
abbrev pub IsLeastCostIn : List ℕ → Cell → Cell → Option Cost → Type 0
IsLeastCostIn words start goal cost = (version : Versioned) → IsImageOf words version → IsLeastCost version.map start goal cost

-- why there is no answer: the version refuses the ends; its image is never broken
abbrev pub IsWalkFaultOf : Versioned → Cell → Cell → WalkFault → Type 0
IsWalkFaultOf version start goal (Refused why) = IsRefusal version.map start goal why
IsWalkFaultOf version start goal Broken = ⊥

abbrev pub IsWalkFaultIn : List ℕ → Cell → Cell → WalkFault → Type 0
IsWalkFaultIn words start goal fault = (version : Versioned) → IsImageOf words version → IsWalkFaultOf version start goal fault

-- the room with these numbers from its front on, as far as it reaches
abbrev pub overwritten : List ℕ → List ℕ → List ℕ
overwritten [] numbers = []
overwritten (x ∷ room) [] = x ∷ room
overwritten (x ∷ room) (number ∷ numbers) = number ∷ overwritten room numbers

-- the moves of the version's walk stand in the room by their numbers, as far as it reaches, and there are so many moves
pub record WritesWalk (version : Versioned) (start goal : Cell) (old new : List ℕ) (count : ℕ) : Type 0 where
  pub moves : List Move
  pub walk : IsWalk version.map version.comps start goal moves
  pub long : count ≡ length moves
  pub room : new ≡ overwritten old (map number_of moves)

-- the path is written, which fits into the room; or there is no path, and the room is as it was
abbrev pub IsPathOf : Versioned → Cell → Cell → List ℕ → List ℕ → Option ℕ → Type 0
IsPathOf version start goal old new found =
    MatchOption found ((Reaches version.map start goal → ⊥) × (new ≡ old))
    (λ count. WritesWalk version start goal old new count × (count ≤ length old))

abbrev pub IsPathIn : List ℕ → Cell → Cell → List ℕ → List ℕ → Option ℕ → Type 0
IsPathIn words start goal old new found = (version : Versioned) → IsImageOf words version → IsPathOf version start goal old new found

-- why no whole path is written: the version refuses the ends, or the room has too few places for so many moves
abbrev pub IsPathFaultOf : Versioned → Cell → Cell → List ℕ → List ℕ → PathFault → Type 0
IsPathFaultOf version start goal old new (Unanswered fault) = IsWalkFaultOf version start goal fault × (new ≡ old)
IsPathFaultOf version start goal old new (TooSmall needed) = WritesWalk version start goal old new needed × (length old < needed)

abbrev pub IsPathFaultIn : List ℕ → Cell → Cell → List ℕ → List ℕ → PathFault → Type 0
IsPathFaultIn words start goal old new fault =
    (version : Versioned) → IsImageOf words version → IsPathFaultOf version start goal old new fault

-- the cell is passable and stands in that component at that place
pub record IsHomeOf (version : Versioned) (cell : Cell) (label place : ℕ) : Type 0 where
  pub passable : IsPassable version.map cell
  pub within : label < length version.comps
  pub there : IsPlaceOf (comp_at version.comps label).cells cell place

abbrev pub IsHomeIn : List ℕ → Cell → Home → Type 0
IsHomeIn words cell home = (version : Versioned) → IsImageOf words version → IsHomeOf version cell home.label home.place

-- the cell is not passable in the version
abbrev pub IsBlockedIn : List ℕ → Cell → Type 0
IsBlockedIn words cell = (version : Versioned) → IsImageOf words version → IsPassable version.map cell → ⊥

-- this is the move that the version keeps for the place of a goal
abbrev pub IsMoveIn : List ℕ → Home → ℕ → Move → Type 0
IsMoveIn words home goal move =
    (version : Versioned) → IsImageOf words version → goal < length (comp_at version.comps home.label).cells
    → IsMoveOfRow (comp_at version.comps home.label) home.place goal move
