-- Sets of move numbers from 0 to 7, each kept as one byte.
use Rattle.std.specs.Prelude.{ℕ, ◌<◌, ◌≤◌, ◌↔◌, List, All, slice_index, IsBitSet}

-- a number is in the set if that bit of the byte is 1
unfoldable pub Has : ℕ → ℕ → Type 0
Has set move = IsBitSet set move

-- one set has exactly the numbers that two sets share
abbrev pub IsShared : ℕ → ℕ → ℕ → Type 0
IsShared both a b = (move : ℕ) → Has both move ↔ Has a move × Has b move

-- one set has exactly the numbers that a set and all sets of a list share
abbrev pub AreShared : ℕ → ℕ → List ℕ → Type 0
AreShared all set sets = (move : ℕ) → Has all move ↔ Has set move × All (λ other. Has other move) sets

-- two sets share no number
abbrev pub ShareNone : ℕ → ℕ → Type 0
ShareNone a b = (move : ℕ) → Has a move → Has b move → ⊥

-- the least number of a set
pub record IsLeastIn (set move : ℕ) : Type 0 where
  pub number : move < 8
  pub member : Has set move
  pub least : (other : ℕ) → Has set other → move ≤ other

-- the number is in each set from place `from` up to but not including place `upto`
pub record IsCommon (sets : List ℕ) (from upto move : ℕ) : Type 0 where
  pub number : move < 8
  pub everywhere : (place : ℕ) → from ≤ place → place < upto → Has (slice_index sets place) move

-- the least number that is in each of these sets
pub record IsLeastCommon (sets : List ℕ) (from upto move : ℕ) : Type 0 where
  pub common : IsCommon sets from upto move
  pub least : (other : ℕ) → IsCommon sets from upto other → move ≤ other
