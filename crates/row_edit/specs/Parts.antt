-- What is read of known sets and of a row, and how the words of a new row are made of the former. Inside the crate.
use Rattle.std.specs.Prelude.{◌≡◌, ℕ, ◌+◌, ◌-◌, ◌^◌, ◌%◌, ◌<◌, ◌≤◌, ◌⊎◌, List, [], ◌∷◌, ◌++◌, length, map, take, drop, insert, remove}
use Rattle.std.specs.Prelude.{Option, Some, None, slice_index, slice_index_or}
use Rattle.run_pack.specs.Sets.{Has, IsCommon}
use Rattle.run_pack.specs.Runs.{IsPacked, starts_of, move_at, run_of_word}
use Rattle.row_edit.specs.declared.PlaceSet.{PlaceSet}
use Rattle.row_edit.specs.declared.span.Span.{Span}
use Rattle.row_edit.specs.declared.parts.Parts.{Parts}
use Rattle.row_edit.specs.Edits.{IsSetOf, AreKnown, IsKnownRow}

-- each move that all sets from a place to before another have is in this set
abbrev pub HoldsCommon : List PlaceSet → ℕ → ℕ → ℕ → Type 0
HoldsCommon known from upto set = (sets : List ℕ) → AreKnown known sets → (move : ℕ) → IsCommon sets from upto move → Has set move

-- this is the set of the place
abbrev pub IsKnownAt : List PlaceSet → ℕ → ℕ → Type 0
IsKnownAt known place set = (sets : List ℕ) → AreKnown known sets → IsSetOf sets (record { place = place; set = set })

-- each move of the place's set is in this set
abbrev pub HoldsAllAt : List PlaceSet → ℕ → ℕ → Type 0
HoldsAllAt known place set =
    (sets : List ℕ) → AreKnown known sets → (move : ℕ) → move < 8 → Has (slice_index sets place) move → Has set move

-- each move of this set is in the place's set, and the place is one of the list
abbrev pub HoldsOnlyOf : List PlaceSet → ℕ → ℕ → Type 0
HoldsOnlyOf known place set =
    (sets : List ℕ) → AreKnown known sets → (move : ℕ) → Has set move
    → (place < length sets) × Has (slice_index sets place) move

-- one set has no move that another has not
abbrev pub IsWithin : ℕ → ℕ → Type 0
IsWithin set other = (move : ℕ) → Has set move → Has other move

-- each move of a set is in another, or in the rest
abbrev pub LeavesRest : ℕ → ℕ → ℕ → Type 0
LeavesRest set other rest = (move : ℕ) → Has set move → (Has other move) ⊎ (Has rest move)

-- no move of the set is below this one
abbrev pub HasNoneBelow : ℕ → ℕ → Type 0
HasNoneBelow set move = (other : ℕ) → Has set other → move ≤ other

-- where the run of this number starts, or the number of places where there is none
abbrev pub border_of : List ℕ → ℕ → ℕ → ℕ
border_of words places number = slice_index_or (starts_of (map run_of_word words)) number places

-- the run of this number: where it starts and ends, its move, and where the run before it starts
pub record IsSpan (words : List ℕ) (places : ℕ) (span : Span) : Type 0 where
  pub within : span.number < length words
  pub before : span.before ≡ border_of words places (span.number - 1)
  pub start : span.start ≡ border_of words places span.number
  pub end : span.end ≡ border_of words places (span.number + 1)
  pub move : span.mv ≡ move_at (map run_of_word words) span.number
  pub small : span.mv < 8

-- it covers the place
pub record Spans (words : List ℕ) (places place : ℕ) (span : Span) : Type 0 where
  pub is : IsSpan words places span
  pub from : span.start ≤ place
  pub upto : place < span.end

-- where the run begins with this place, each move of the run before that is in the set behind the place is in its own
abbrev pub StaysCut : Span → ℕ → PlaceSet → List PlaceSet → Type 0
StaysCut span places out known = span.start ≡ out.place → 0 < span.number → out.place + 1 < places → (sets : List ℕ) → AreKnown known sets
    → (move : ℕ) → IsCommon sets span.before out.place move → Has (slice_index sets (out.place + 1)) move → Has out.set move

-- each move that the run's other sets have is in the place's set, or else it is not below the run's own and not in the
-- set behind the run
abbrev pub StaysWhole : Span → ℕ → PlaceSet → List PlaceSet → Type 0
StaysWhole span places out known =
    (sets : List ℕ) → AreKnown known sets → (move : ℕ)
    → IsCommon sets span.start out.place move → IsCommon sets (out.place + 1) span.end move
    → (Has out.set move) ⊎ ((span.mv ≤ move) × (span.end < places → Has (slice_index sets span.end) move → ⊥))

-- each move of the run that is in the new set is in the set behind the run
abbrev pub EndsAt : Span → PlaceSet → List PlaceSet → Type 0
EndsAt span put known =
    (sets : List ℕ) → AreKnown known sets → (move : ℕ) → IsCommon sets span.start put.place move → Has put.set move
    → (put.place < length sets) × Has (slice_index sets put.place) move

-- no move of the run before this one is in the new set
abbrev pub CutsBefore : List ℕ → ℕ → ℕ → PlaceSet → List PlaceSet → Type 0
CutsBefore words places number put known =
    0 < number → (sets : List ℕ) → IsKnownRow words places known sets → (move : ℕ)
    → IsCommon sets (border_of words places (number - 1)) put.place move → Has put.set move → ⊥

-- a word as a list, where there is one
abbrev pub own_words : Option ℕ → List ℕ
own_words None = []
own_words (Some word) = word ∷ []

-- each word with so much more, as 32 bits count
abbrev pub raised : ℕ → List ℕ → List ℕ
raised by words = map (λ word. (word + by) % 2 ^ 32) words

-- words of a row, a word of its own, and words of a row that are raised
abbrev pub joined : List ℕ → Parts → ℕ → List ℕ
joined words parts by = take parts.front words ++ (own_words parts.own ++ raised by (drop parts.back words))

-- one place earlier, as 32 bits count
abbrev pub one_less : ℕ
one_less = 2 ^ 32 - 8

-- the parts of the row without a place
pub record AreWithout (words : List ℕ) (places : ℕ) (out : PlaceSet) (known : List PlaceSet) (parts : Parts) : Type 0 where
  pub front : parts.front ≤ length words
  pub back : parts.back ≤ length words
  pub packed : (sets : List ℕ) → IsKnownRow words places (out ∷ known) sets
      → IsPacked (map run_of_word (joined words parts one_less)) (remove sets out.place)

-- the parts of the row with one place more
pub record AreWith (words : List ℕ) (places : ℕ) (put : PlaceSet) (known : List PlaceSet) (parts : Parts) : Type 0 where
  pub front : parts.front ≤ length words
  pub back : parts.back ≤ length words
  pub packed : (sets : List ℕ) → IsKnownRow words places known sets
      → IsPacked (map run_of_word (joined words parts 8)) (insert sets put.place put.set)
