-- Classes: sixteen near sources see most of a component alike. Where they do, keys are those of one search, the reference,
-- with an amount more that is the same in a whole region, and sets are the same there too. Such a region is a class.
use Rattle.std.specs.Prelude.{◌≡◌, ◌≢◌, ℕ, ◌+◌, ◌/◌, ◌%◌, ◌^◌, ◌<◌, ◌≤◌, ◌⊎◌, List, length, slice_index}
use Rattle.moves.specs.declared.Move.{Move}
use Rattle.lane_rows.specs.Tables.{edges_of, end_of}
use Rattle.lane_rows.specs.Equations.{lane_of, offered}
use Rattle.lane_rows.specs.Visits.{IsFull}

-- the class of a place: the upper half of its code
abbrev pub class_in : List ℕ → ℕ → ℕ
class_in codes place = slice_index codes place / 2 ^ 16

-- in one lane, the keys of so many places are the reference's costs and the offsets of their classes, and their sets are
-- those of their classes
pub record AreByClass (count : ℕ) (costs classes offsets class_sets keys sets : ℕ → ℕ) : Type 0 where
  pub key : (place : ℕ) → place < count → keys place ≡ (offsets (classes place) + costs place) % 2 ^ 32
  pub set : (place : ℕ) → place < count → sets place ≡ class_sets (classes place)

-- all neighbours of the place are of its class, and the reference's cost there is the least that its moves offer
pub record IsInside (edges : List ℕ) (count : ℕ) (costs classes : ℕ → ℕ) (place : ℕ) : Type 0 where
  pub alike : (move : Move) → (end_of edges move ≡ count) ⊎ (classes (end_of edges move) ≡ classes place)
  pub at_most : (move : Move) → costs place ≤ offered edges costs move
  pub attained : (move : Move) × (costs place ≡ offered edges costs move)

-- the place is inside its class, and its set is neither empty nor full in any lane
pub record IsWithin (edges : List ℕ) (count : ℕ) (costs codes : List ℕ) (sets : List (List ℕ)) (place : ℕ) : Type 0 where
  pub inside : IsInside edges count (slice_index costs) (slice_index codes) place
  pub some : (lane : ℕ) → lane < 16 → lane_of sets lane place ≢ 0
  pub byte : (lane : ℕ) → lane < 16 → lane_of sets lane place < 256
  pub not_all : (lane : ℕ) → lane < 16 → IsFull (lane_of sets lane place) → ⊥

-- each of the first so many places that does not wait is inside its class
abbrev pub AreWithin : List (List ℕ) → List ℕ → List ℕ → List (List ℕ) → List ℕ → ℕ → Type 0
AreWithin near costs codes sets waits upto = (place : ℕ) → place < upto → slice_index waits place ≡ 0
    → IsWithin (edges_of near place) (length near) costs codes sets place
