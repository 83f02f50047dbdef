-- How a search ends.
use Rattle.std.specs.Prelude.{◌≡◌, ◌≢◌, ◌⊎◌, ℕ, zero, suc, ◌+◌, ◌/◌, ◌%◌, ◌<◌, ◌≤◌, ◌++◌, List, [], ◌∷◌, length, map, Option, Some}
use Rattle.root_cost.specs.Keys.{key_of}
use Rattle.moves.specs.declared.Cell.{Cell}
use Rattle.moves.specs.declared.Move.{Move}
use Rattle.moves.specs.Moves.{number_of}
use Rattle.moves.specs.Paths.{Leads, cost_of}
use Rattle.versions.specs.Databases.{Versioned}
use Rattle.path_image.specs.Answers.{overwritten}
use Rattle.path_image.specs.Strides.{Walking}
use Rattle.path_image.specs.Walks.{IsAhead}
use Rattle.live_maps.specs.Told.{Living}
use Rattle.live_search.specs.declared.TheConstants.{NEVER}
use Rattle.live_search.specs.declared.searching.TheConstants.{NO_LIMIT}
use Rattle.live_search.specs.declared.searching.Turn.{Turn}
use Rattle.live_search.specs.declared.searching.Turn.TheVariants.{On, Last, Nowhere, Lost}
use Rattle.live_search.specs.declared.seeking.Seek.{Seek}
use Rattle.live_search.specs.Sound.{IsAbout, IsBegun, IsSound, now}
use Rattle.live_search.specs.State.{IsListed, cost_in, from_in, listed_in, mark_in, told_in}

-- the place was reached, is open or the goal, and the cost to it and its bound are below the key
pub record IsOpenBelow (seek : Seek) (state : List ℕ) (key place : ℕ) : Type 0 where
  pub known : mark_in state place ≢ 0
  pub reached : cost_in state seek.size place < NEVER
  pub is_open : (mark_in state place ≢ 2) ⊎ (place ≡ seek.goal.place)
  pub below : cost_in state seek.size place + told_in state seek.size place / 2 < key

-- none of so many that are listed is so
abbrev pub NoneIsListedOpen : Seek → List ℕ → ℕ → ℕ → Type 0
NoneIsListedOpen seek state key known =
    (index : ℕ) → index < known → listed_in state seek.size index < seek.size → IsOpenBelow seek state key (listed_in state seek.size index) → ⊥

-- no place is so, where each known one is in the list
abbrev pub NoneIsOpen : Seek → List ℕ → ℕ → Type 0
NoneIsOpen seek state key =
    IsListed seek.size state → (place : ℕ) → place < seek.size → IsOpenBelow seek state key place → ⊥

-- so many steps lead from the start to the place, with these moves
abbrev pub LeadsBy : Seek → List ℕ → ℕ → ℕ → List Move → Type 0
LeadsBy seek state zero place moves = (place ≡ seek.first) × (moves ≡ [])
LeadsBy seek state (suc count) place moves =
    (place ≢ seek.first) × (from_in state seek.size place / 8 < seek.size)
    × (move : Move) × (front : List Move) × (number_of move ≡ from_in state seek.size place % 8) × (moves ≡ front ++ move ∷ [])
    × LeadsBy seek state count (from_in state seek.size place / 8) front

-- over a version, a place that was reached has moves that lead to it, and so many they are
abbrev pub IsChainLength : Seek → List ℕ → ℕ → Option ℕ → Type 0
IsChainLength seek state place found =
    (version : Versioned) (live : Living) (start goal : Cell) → IsAbout version live seek start goal → IsSound version live seek start goal state
    → mark_in state place ≢ 0 → cost_in state seek.size place < NEVER
    → (count : ℕ) × (found ≡ Some count) × (moves : List Move) × LeadsBy seek state count place moves

-- these moves stand in the front of the room
abbrev pub PutsChain : Seek → List ℕ → ℕ → ℕ → List ℕ → List ℕ → Type 0
PutsChain seek state place count old new = (moves : List Move) → LeadsBy seek state count place moves → new ≡ overwritten old (map number_of moves)

-- over a version, the moves that are ahead of a walk stand behind those that stand in the room already, as far as it reaches
abbrev pub PutsRest : Walking → ℕ → ℕ → List ℕ → List ℕ → Option ℕ → Type 0
PutsRest walk size before old new found =
    (version : Versioned) (empty : List ℕ) (done moves : List Move) → IsAhead walk.words version walk.walk moves → length moves < size
    → before ≡ length done → old ≡ overwritten empty (map number_of done)
    → (found ≡ Some (before + length moves)) × (new ≡ overwritten empty (map number_of (done ++ moves)))

-- a path by the place, with no greater key than the cost to it and its bound, stands in the room, and has so many moves
pub record FinishesWith (version : Versioned) (live : Living) (seek : Seek) (start goal : Cell) (state : List ℕ) (place : ℕ) (old new : List ℕ)
    (count : ℕ) : Type 0 where
  pub moves : List Move
  pub leads : Leads (now version live) start moves goal
  pub cheap : key_of (cost_of moves) ≤ cost_in state seek.size place + told_in state seek.size place / 2
  pub long : count ≡ length moves
  pub room : new ≡ overwritten old (map number_of moves)

abbrev pub Finishes : Living → Seek → List ℕ → ℕ → List ℕ → List ℕ → Option ℕ → Type 0
Finishes live seek state place old new found =
    (version : Versioned) (start goal : Cell) → IsAbout version live seek start goal → IsSound version live seek start goal state
    → mark_in state place ≢ 0 → cost_in state seek.size place < NEVER → told_in state seek.size place % 2 ≡ 1
    → (count : ℕ) × (found ≡ Some count) × FinishesWith version live seek start goal state place old new count

-- ---- a search goes on

-- the search stays sound and begun
abbrev pub KeepsOn : Living → Seek → List ℕ → List ℕ → Type 0
KeepsOn live seek old new =
    (version : Versioned) (start goal : Cell) → IsAbout version live seek start goal → IsSound version live seek start goal old → IsBegun seek old
    → IsSound version live seek start goal new × IsBegun seek new

-- the place is the goal of the search: what is told from it is free, and nothing is open that may lie on a cheaper path
pub record IsLast (seek : Seek) (state : List ℕ) (place : ℕ) : Type 0 where
  pub within : place < seek.size
  pub known : mark_in state place ≢ 0
  pub reached : cost_in state seek.size place < NEVER
  pub free : told_in state seek.size place % 2 ≡ 1
  pub least : NoneIsOpen seek state (cost_in state seek.size place + told_in state seek.size place / 2)

-- how a turn ends, over each version
abbrev pub IsTurn : Living → Seek → List ℕ → List ℕ → Turn → Type 0
IsTurn live seek old new On = KeepsOn live seek old new
IsTurn live seek old new (Last place) = KeepsOn live seek old new × IsLast seek new place
IsTurn live seek old new Nowhere = KeepsOn live seek old new × NoneIsOpen seek new NO_LIMIT
IsTurn live seek old new Lost =
    (version : Versioned) (start goal : Cell) → IsAbout version live seek start goal → IsSound version live seek start goal old → IsBegun seek old → ⊥
