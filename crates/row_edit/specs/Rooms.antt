-- A row and what is known of its list, before an edit and after it. Inside the crate.
use Rattle.std.specs.Prelude.{◌≡◌, ℕ, List, length}
use Rattle.run_pack.specs.Runs.{AppendsRow}
use Rattle.row_edit.specs.declared.PlaceSet.{PlaceSet}
use Rattle.row_edit.specs.declared.each.RowEdit.{RowEdit}
use Rattle.row_edit.specs.declared.each.EditRoom.{EditRoom}
use Rattle.row_edit.specs.Edits.{IsSetOf, AreKnown, IsKnownRow, edited, edited_by, Suits, SuitEach}

-- the words of the row of the changed list are appended, which has so many places
pub record HasEdited (old new sets : List ℕ) (places : ℕ) : Type 0 where
  pub appends : AppendsRow old new sets
  pub count : length sets ≡ places

-- so it is whichever list has the row, the known sets and the set that the edit says
abbrev pub EditsRow : List ℕ → ℕ → RowEdit → List PlaceSet → List ℕ → List ℕ → ℕ → Type 0
EditsRow words places edit known old new after =
    (sets : List ℕ) → IsKnownRow words places known sets → Suits sets edit → HasEdited old new (edited sets edit) after

-- a known set after an edit
abbrev pub MovesKnown : RowEdit → PlaceSet → PlaceSet → Type 0
MovesKnown edit old new = (sets : List ℕ) → Suits sets edit → IsSetOf sets old → IsSetOf (edited sets edit) new

-- what is known of a list after an edit
abbrev pub KeepsKnown : RowEdit → List PlaceSet → List PlaceSet → Type 0
KeepsKnown edit old new = (sets : List ℕ) → Suits sets edit → AreKnown old sets → AreKnown new (edited sets edit)

-- the row before an edit and after it, over so many places
abbrev pub GoesOn : EditRoom → EditRoom → ℕ → ℕ → RowEdit → Type 0
GoesOn old new places after edit =
    (sets : List ℕ) → IsKnownRow old.words.items places old.known.items sets → Suits sets edit
    → IsKnownRow new.words.items after new.known.items (edited sets edit)

-- some list has this row, these edits are left of it, and they lead where all edits of the first list do
pub record IsBetween (sets : List ℕ) (all rest : List RowEdit) (words : List ℕ) (places : ℕ) (known : List PlaceSet) : Type 0 where
  pub now : List ℕ
  pub row : IsKnownRow words places known now
  pub suit : SuitEach now rest
  pub same : edited_by now rest ≡ edited_by sets all
