-- The equations of one place, for its key and its first set, in one lane. A lane is a search from a source of its own;
-- `keys` and `sets` say what stands in it at each place.
-- (Botea 2011; Strasser, Harabor and Botea 2014: first moves are those of the best ways to the cells before.)
use Rattle.std.specs.Prelude.{◌≡◌, ◌≢◌, ℕ, ◌+◌, ◌<◌, ◌≤◌, ◌⊎◌, List, [], slice_index, slice_index_or}
use Rattle.root_cost.specs.Keys.{step_key}
use Rattle.moves.specs.declared.Move.{Move}
use Rattle.moves.specs.Moves.{is_diagonal, opposite}
use Rattle.moves.specs.MoveSets.{Has}
use Rattle.lane_rows.specs.Tables.{end_of}

-- the key of a move
abbrev pub step_of : Move → ℕ
step_of move = step_key (is_diagonal move)

-- a key that no path has, for places that are not reached
abbrev pub far : ℕ
far = 2147483648

-- what stands in one lane at each place
abbrev pub lane_of : List (List ℕ) → ℕ → ℕ → ℕ
lane_of rows lane place = slice_index (slice_index_or rows place []) lane

-- what a move offers: the key of the place where it leads, and a step
abbrev pub offered : List ℕ → (ℕ → ℕ) → Move → ℕ
offered edges keys move = keys (end_of edges move) + step_of move

-- The source's key is 0; no other is more than a move offers, and some move offers just that, or it is far.
pub record MeetsKey (edges : List ℕ) (source : ℕ) (keys : ℕ → ℕ) (place key : ℕ) : Type 0 where
  pub start : place ≡ source → key ≡ 0
  pub at_most : (move : Move) → key ≤ offered edges keys move
  pub attained : place ≢ source → (key ≡ far) ⊎ ((move : Move) × (key ≡ offered edges keys move))

-- the first move stands in the set of a neighbour from which a step attains the key
abbrev pub IsBrought : List ℕ → (ℕ → ℕ) → (ℕ → ℕ) → ℕ → Move → Type 0
IsBrought edges keys sets key first = (move : Move) × (key ≡ offered edges keys move)
    × Has (sets (end_of edges move)) first

-- the move leads here from the source itself
abbrev pub IsStart : List ℕ → ℕ → Move → Type 0
IsStart edges source first = end_of edges (opposite first) ≡ source

-- the set has what is brought and, where nothing is, the move from the source
pub record MeetsSet (edges : List ℕ) (source : ℕ) (keys sets : ℕ → ℕ) (key set : ℕ) : Type 0 where
  pub within : (first : Move) → Has set first → IsBrought edges keys sets key first ⊎ IsStart edges source first
  pub brought : (first : Move) → IsBrought edges keys sets key first → Has set first
  pub started : ((first : Move) → IsBrought edges keys sets key first → ⊥) → (first : Move)
      → IsStart edges source first → Has set first

-- no key is beyond the one that stands for none
pub record AreInRange (rows : List (List ℕ)) : Type 0 where
  pub each : (lane place : ℕ) → lane < 16 → lane_of rows lane place ≤ far
