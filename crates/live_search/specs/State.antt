-- The state of a search in words, for a component of n cells: a mark for each of its places, then seven words for each, and then
-- how many places are known. A place is a cell's number in the component.
use Rattle.std.specs.Prelude.{◌≡◌, ◌≢◌, ◌⊎◌, ℕ, ◌+◌, ◌*◌, ◌<◌, ◌≤◌, List, length, slice_index}
use Rattle.live_search.specs.declared.TheConstants.{NEVER}

-- 0 for a place of which nothing is known, 1 for one that is open, and 2 for one that is closed
abbrev pub mark_in : List ℕ → ℕ → ℕ
mark_in state place = slice_index state place

-- the key of the cheapest path to it that was found
abbrev pub cost_in : List ℕ → ℕ → ℕ → ℕ
cost_in state n place = slice_index state (n + 7 * place)

-- the key of its least cost to the goal on the baked map, twice, and one more where the path that the database tells is free
abbrev pub told_in : List ℕ → ℕ → ℕ → ℕ
told_in state n place = slice_index state (n + 7 * place + 1)

-- the place before it on that path, eight times, and the number of the move from there
abbrev pub from_in : List ℕ → ℕ → ℕ → ℕ
from_in state n place = slice_index state (n + 7 * place + 2)

-- its cell, the row times 65,536 and the column
abbrev pub cell_in : List ℕ → ℕ → ℕ → ℕ
cell_in state n place = slice_index state (n + 7 * place + 3)

-- the places that are known, in the order in which they came
abbrev pub listed_in : List ℕ → ℕ → ℕ → ℕ
listed_in state n index = slice_index state (n + 7 * index + 4)

-- the steps of a path that is told: sixteen times the place, twice the number of its move, and one more where that is free
abbrev pub link_in : List ℕ → ℕ → ℕ → ℕ
link_in state n index = slice_index state (n + 7 * index + 5)

-- and the cell of that place
abbrev pub link_cell_in : List ℕ → ℕ → ℕ → ℕ
link_cell_in state n index = slice_index state (n + 7 * index + 6)

-- how many places are known
abbrev pub known_in : List ℕ → ℕ → ℕ
known_in state n = slice_index state (8 * n)

-- there are words for a component of n cells
abbrev pub HasState : List ℕ → ℕ → Type 0
HasState state n = length state ≡ 8 * n + 1

-- each known place is in the list, unless that is full
abbrev pub IsListed : ℕ → List ℕ → Type 0
IsListed n state =
    (place : ℕ) → place < n → mark_in state place ≢ 0
    → (n ≤ known_in state n) ⊎ ((index : ℕ) × (index < known_in state n) × (listed_in state n index ≡ place))

-- of one place both say the same
pub record IsSameAt (n : ℕ) (old new : List ℕ) (place : ℕ) : Type 0 where
  pub mark : mark_in new place ≡ mark_in old place
  pub cost : cost_in new n place ≡ cost_in old n place
  pub told : told_in new n place ≡ told_in old n place
  pub from : from_in new n place ≡ from_in old n place
  pub cell : cell_in new n place ≡ cell_in old n place

-- so many places are listed in both, and the same ones
pub record IsSameList (n : ℕ) (old new : List ℕ) : Type 0 where
  pub count : known_in new n ≡ known_in old n
  pub each : (index : ℕ) → index < n → listed_in new n index ≡ listed_in old n index

-- both have the same step there
pub record IsSameLink (n : ℕ) (old new : List ℕ) (index : ℕ) : Type 0 where
  pub link : link_in new n index ≡ link_in old n index
  pub cell : link_cell_in new n index ≡ link_cell_in old n index

-- and everywhere
abbrev pub IsSameLinks : ℕ → List ℕ → List ℕ → Type 0
IsSameLinks n old new = (index : ℕ) → index < n → IsSameLink n old new index

-- of all places both say the same
abbrev pub IsSameState : ℕ → List ℕ → List ℕ → Type 0
IsSameState n old new = (place : ℕ) → place < n → IsSameAt n old new place

-- a place of which nothing was known is open, with its cell and what is told from it, and no path was found to it; the others are as they were
pub record Knows (n : ℕ) (old new : List ℕ) (place told cell : ℕ) : Type 0 where
  pub mark : mark_in new place ≡ 1
  pub cost : cost_in new n place ≡ NEVER
  pub told_now : told_in new n place ≡ told
  pub cell_now : cell_in new n place ≡ cell
  pub others : (other : ℕ) → other < n → other ≢ place → IsSameAt n old new other
  pub listed : IsSameList n old new
  pub links : IsSameLinks n old new

-- a cheaper path was found to a place, which is open again; the others are as they were
pub record Lowers (n : ℕ) (old new : List ℕ) (place cost from : ℕ) : Type 0 where
  pub mark : mark_in new place ≡ 1
  pub cost_now : cost_in new n place ≡ cost
  pub from_now : from_in new n place ≡ from
  pub told : told_in new n place ≡ told_in old n place
  pub cell : cell_in new n place ≡ cell_in old n place
  pub others : (other : ℕ) → other < n → other ≢ place → IsSameAt n old new other
  pub listed : IsSameList n old new

-- a place is closed; nothing else is new of it or of the others
pub record Closes (n : ℕ) (old new : List ℕ) (place : ℕ) : Type 0 where
  pub mark : mark_in new place ≡ 2
  pub cost : cost_in new n place ≡ cost_in old n place
  pub told : told_in new n place ≡ told_in old n place
  pub from : from_in new n place ≡ from_in old n place
  pub cell : cell_in new n place ≡ cell_in old n place
  pub others : (other : ℕ) → other < n → other ≢ place → IsSameAt n old new other
  pub listed : IsSameList n old new

-- a step of a path that is told is put; nothing else is new
pub record PutsLink (n : ℕ) (old new : List ℕ) (index link cell : ℕ) : Type 0 where
  pub same : IsSameState n old new
  pub listed : IsSameList n old new
  pub link_now : link_in new n index ≡ link
  pub cell_now : link_cell_in new n index ≡ cell
  pub others : (other : ℕ) → other < n → other ≢ index → IsSameLink n old new other

-- the place is the last one of the list, if that has room for it; nothing else is new
pub record Lists (n : ℕ) (old new : List ℕ) (place : ℕ) : Type 0 where
  pub same : IsSameState n old new
  pub links : IsSameLinks n old new
  pub count : known_in old n < n → known_in new n ≡ known_in old n + 1
  pub last : known_in old n < n → listed_in new n (known_in old n) ≡ place
  pub full : n ≤ known_in old n → known_in new n ≡ known_in old n
  pub before : (index : ℕ) → index < n → index < known_in old n → listed_in new n index ≡ listed_in old n index

-- what is known stays known, of the same cell, and no path to it becomes dearer
pub record IsOnlyCheaper (n : ℕ) (old new : List ℕ) (place : ℕ) : Type 0 where
  pub known : mark_in new place ≢ 0
  pub cell : cell_in new n place ≡ cell_in old n place
  pub told : told_in new n place ≡ told_in old n place
  pub cost : cost_in new n place ≤ cost_in old n place

abbrev pub Grows : ℕ → List ℕ → List ℕ → Type 0
Grows n old new = (place : ℕ) → place < n → mark_in old place ≢ 0 → IsOnlyCheaper n old new place
