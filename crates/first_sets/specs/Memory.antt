-- What holds for the memory between two fills: only the sets that the last fill wrote can be non-empty.
use Rattle.std.specs.Prelude.{ℕ, ◌*◌, ◌<◌, ◌≤◌, List, length, take, replicate, slice_index, All, Contains}
use Rattle.moves.specs.declared.Move.{Move}
use Rattle.moves.specs.MoveSets.{Has}
use Rattle.grid_search.specs.Kept.{HasRoom}

-- the sets of the cells of a map, row by row, and how many of them a fill may write
pub record Sparse : Type 0 where
  pub sets : List ℕ
  pub reach : ℕ

-- new sets, all empty
abbrev pub empty_sets : ℕ → ℕ → Sparse
empty_sets cells reach = record { sets = replicate cells 0; reach = reach }

-- all sets are empty
abbrev pub AreEmpty : List ℕ → Type 0
AreEmpty sets = (place : ℕ) (move : Move) → Has (slice_index sets place) move → ⊥

-- all sets but those at these places are empty
abbrev pub AreEmptyBut : List ℕ → List ℕ → Type 0
AreEmptyBut places sets = (place : ℕ) (move : Move) → Has (slice_index sets place) move → Contains places place

-- these are places of sets, and all other sets are empty
pub record AreNoted (places sets : List ℕ) : Type 0 where
  pub inside : All (λ place. place < length sets) places
  pub written : AreEmptyBut places sets

-- the first `count` places are places of sets, and all other sets are empty
pub record IsNoted (sets places : List ℕ) (count : ℕ) : Type 0 where
  pub counted : count ≤ length places
  pub noted : AreNoted (take count places) sets

-- there is room for the map's sets, and for the places of all cells that a search reaches on a map of that many cells
pub record IsKept (width height : ℕ) (sparse : Sparse) : Type 0 where
  pub fits : width * height ≤ length sparse.sets
  pub reach_room : HasRoom (length sparse.sets) sparse.reach
