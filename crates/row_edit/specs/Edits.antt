-- A list of sets of which some are known, its row, and the row of the list with one place more or less.
use Rattle.std.specs.Prelude.{◌≡◌, ℕ, ◌<◌, ◌≤◌, List, [], ◌∷◌, length, map, slice_index, All, insert, remove}
use Rattle.run_pack.specs.Runs.{IsPacked, AppendsRow, run_of_word}
use Rattle.row_edit.specs.declared.PlaceSet.{PlaceSet}
use Rattle.row_edit.specs.declared.each.RowEdit.{RowEdit}
use Rattle.row_edit.specs.declared.each.RowEdit.TheVariants.{Out, In}

-- the set of that place
pub record IsSetOf (sets : List ℕ) (one : PlaceSet) : Type 0 where
  pub inside : one.place < length sets
  pub is : slice_index sets one.place ≡ one.set

-- each known set is the set of its place
abbrev pub AreKnown : List PlaceSet → List ℕ → Type 0
AreKnown known sets = All (λ one. IsSetOf sets one) known

-- these are the words of the packed row of so many sets, some of which are known
pub record IsKnownRow (words : List ℕ) (places : ℕ) (known : List PlaceSet) (sets : List ℕ) : Type 0 where
  pub packed : IsPacked (map run_of_word words) sets
  pub count : length sets ≡ places
  pub agree : AreKnown known sets

-- behind the words that were there stand those of the packed row of the sets without this place, whichever sets have
-- these words for their row, this set there, and the sets that are known
abbrev pub TakesOut : List ℕ → ℕ → PlaceSet → List PlaceSet → List ℕ → List ℕ → Type 0
TakesOut words places out known old new =
    (sets : List ℕ) → IsKnownRow words places (out ∷ known) sets → AppendsRow old new (remove sets out.place)

-- the same of the sets with one more, at that place and before the set that was there, or behind the last
abbrev pub PutsIn : List ℕ → ℕ → PlaceSet → List PlaceSet → List ℕ → List ℕ → Type 0
PutsIn words places put known old new =
    (sets : List ℕ) → IsKnownRow words places known sets → AppendsRow old new (insert sets put.place put.set)

-- the list after an edit: without that place, or with that set before that place
abbrev pub edited : List ℕ → RowEdit → List ℕ
edited sets (Out one) = remove sets one.place
edited sets (In one) = insert sets one.place one.set

-- the list after some edits, one after the other
abbrev pub edited_by : List ℕ → List RowEdit → List ℕ
edited_by sets [] = sets
edited_by sets (edit ∷ edits) = edited_by (edited sets edit) edits

-- the place that is taken out has the set that the edit says, and the one that is put in stands behind the last at most
abbrev pub Suits : List ℕ → RowEdit → Type 0
Suits sets (Out one) = IsSetOf sets one
Suits sets (In one) = one.place ≤ length sets

-- each edit suits the list that is there by then
abbrev pub SuitEach : List ℕ → List RowEdit → Type 0
SuitEach sets [] = Unit {0}
SuitEach sets (edit ∷ edits) = Suits sets edit × SuitEach (edited sets edit) edits

-- behind the words that were there stand those of the packed row of the sets after these edits, whichever sets have
-- these words for their row, the sets that are known, and those that the edits say
abbrev pub TakesEdits : List ℕ → ℕ → List RowEdit → List PlaceSet → List ℕ → List ℕ → Type 0
TakesEdits words places edits known old new =
    (sets : List ℕ) → IsKnownRow words places known sets → SuitEach sets edits → AppendsRow old new (edited_by sets edits)
