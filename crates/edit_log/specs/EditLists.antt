-- A log of edits as its callers see it.
use Rattle.std.specs.Prelude.{◌≡◌, ℕ, ◌+◌, ◌-◌, ◌*◌, ◌^◌, ◌<◌, ◌≤◌, List, [], ◌∷◌, length, take, drop}
use Rattle.edit_log.specs.declared.TheConstants.{MAX_CHANGES}
use Rattle.edit_log.specs.declared.edit.CellChange.{CellChange}
use Rattle.edit_log.specs.declared.edit.Edit.{Edit}

-- the edits in order, and how many more can be pushed without taking memory
pub record EditLog : Type 0 where
  pub edits : List Edit
  pub spare : ℕ

-- the log of these edits
abbrev pub edit_list : List Edit → ℕ → EditLog
edit_list edits spare = record { edits = edits; spare = spare }

-- the edits that these changes make up, one after another, given where the first one begins and where each one ends
abbrev pub edits_between : ℕ → List ℕ → List CellChange → List Edit
edits_between from [] changes = []
edits_between from (end ∷ ends) changes = take (end - from) changes ∷ edits_between end ends (drop (end - from) changes)

-- each edit has 1 to 64 changes, and the last one ends with the last change
abbrev pub AreEnds : ℕ → List ℕ → ℕ → Type 0
AreEnds from [] last = from ≡ last
AreEnds from (end ∷ ends) last = (from < end) × (end ≤ from + MAX_CHANGES) × AreEnds end ends last

-- how it is stored: memory is reserved for `room` edits of up to 64 changes, and all changes can be counted
pub record IsStored (changes : List CellChange) (ends : List ℕ) (room changes_taken ends_taken : ℕ) : Type 0 where
  pub cut : AreEnds 0 ends (length changes)
  pub held : length ends ≤ room
  pub changes_held : length changes + MAX_CHANGES * (room - length ends) ≤ changes_taken
  pub ends_held : room ≤ ends_taken
  pub countable : MAX_CHANGES * room < 2 ^ 32
