-- The neighbours of a cell by their places in a list that goes row by row.
use Rattle.std.specs.Prelude.{◌≡◌, ℕ, ◌+◌, ◌%◌, ◌^◌, ◌<◌, ◌⊎◌, ◌≤◌, ◌↔◌, List, length, slice_index}
use Rattle.moves.specs.declared.Move.{Move}
use Rattle.moves.specs.declared.Move.TheVariants.{N, NE, E, SE, S, SW, W, NW}
use Rattle.moves.specs.declared.TheConstants.{MAX_CELLS}
use Rattle.moves.specs.Moves.{number_of}
use Rattle.moves.specs.MoveSets.{Has}
use Rattle.grid_search.specs.Keys.{move_key}

-- the move leads from one place to the other, in rows of that width
abbrev pub IsBeside : ℕ → Move → ℕ → ℕ → Type 0
IsBeside width N from to = to + width ≡ from
IsBeside width NE from to = to + width ≡ from + 1
IsBeside width E from to = to ≡ from + 1
IsBeside width SE from to = to ≡ from + width + 1
IsBeside width S from to = to ≡ from + width
IsBeside width SW from to = to + 1 ≡ from + width
IsBeside width W from to = to + 1 ≡ from
IsBeside width NW from to = to + width + 1 ≡ from

-- what each move adds to a place, modulo 2^64
abbrev pub AreDistances : ℕ → List ℕ → Type 0
AreDistances width distances = (by : Move) (from to : ℕ) → to < 2 ^ 64 → IsBeside width by from to
    → (from + slice_index distances (number_of by)) % 2 ^ 64 ≡ to

-- every legal move leads to a place in the list
abbrev pub StaysWithin : ℕ → ℕ → ℕ → ℕ → Type 0
StaysWithin width size legal place = (by : Move) → Has legal by → (to : ℕ) × IsBeside width by place to × (to < size)

-- the move is in the set at the place already, or in the set at a place beside it from which a step attains the key
abbrev pub IsBroughtTo : ℕ → List ℕ → List ℕ → ℕ → ℕ → Move → Type 0
IsBroughtTo width keys sets legal place move =
    Has (slice_index sets place) move
    ⊎ ((by : Move) × (from : ℕ) × Has legal by × IsBeside width by place from
    × (slice_index keys from + move_key by ≡ slice_index keys place) × Has (slice_index sets from) move)

-- the set has exactly the moves that are brought to that place
abbrev pub IsJoined : ℕ → List ℕ → List ℕ → ℕ → ℕ → ℕ → Type 0
IsJoined width keys sets legal place set = (move : Move) → Has set move ↔ IsBroughtTo width keys sets legal place move

-- if the move with that number is legal, it leads from one place to the other; a place is a number below 2^64
abbrev pub LeadsThere : ℕ → ℕ → ℕ → ℕ → ℕ → Type 0
LeadsThere width legal number place there =
    (by : Move) (to : ℕ) → number_of by ≡ number → Has legal by → IsBeside width by place to → to < 2 ^ 64
    → there ≡ to

-- if the move with that number is not legal, the place stays the same
abbrev pub StaysElse : ℕ → ℕ → ℕ → ℕ → Type 0
StaysElse legal number place there = (by : Move) → number_of by ≡ number → (Has legal by → ⊥) → there ≡ place

-- the places to which the moves lead, by the moves' numbers
abbrev pub AreBeside : ℕ → ℕ → List ℕ → Type 0
AreBeside width place around = (by : Move) (to : ℕ) → IsBeside width by place to
    → slice_index around (number_of by) ≡ to

-- the key of the step that the move with that number makes
abbrev pub IsStepKey : ℕ → ℕ → Type 0
IsStepKey number key = (by : Move) → number_of by ≡ number → key ≡ move_key by

-- What joining sets at a place requires: at least as many sets as keys, no more keys than a map has cells, and each
-- legal move leading to one of them.
pub record CanJoin (width : ℕ) (keys sets : List ℕ) (legal place : ℕ) : Type 0 where
  pub inside : place < length keys
  pub size : length keys ≤ MAX_CELLS
  pub room : length keys ≤ length sets
  pub near : StaysWithin width (length keys) legal place
