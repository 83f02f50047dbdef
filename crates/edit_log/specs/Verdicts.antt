-- Whether an edit is accepted, and why it is refused.
--
-- On a map of 32,768 passable cells, an edit that frees a blocked cell is refused as too many cells. One that frees a
-- passable cell is accepted, and so is one that frees one cell and blocks another. Whether a cell is outside the map is
-- checked first.
use Rattle.std.specs.Prelude.{ℕ, ◌<◌, ◌≤◌, List, codes}
use Rattle.moves.specs.Maps.{Map, IsSearchable}
use Rattle.edit_log.specs.declared.TheConstants.{MAX_EDITS}
use Rattle.edit_log.specs.declared.edit.Edit.{Edit}
use Rattle.edit_log.specs.declared.verdict.EditRefusal.{EditRefusal}
use Rattle.edit_log.specs.declared.verdict.EditRefusal.TheVariants.{Outside, Repeated, TooManyCells, EditsFull}
use Rattle.edit_log.specs.Edits.{ChangesInside, HasNoRepeats, edited}

-- why an edit is refused, in words
abbrev pub refusal_text : EditRefusal → List ℕ
refusal_text Outside = codes "outside"
refusal_text Repeated = codes "repeated"
refusal_text TooManyCells = codes "too many cells"
refusal_text EditsFull = codes "edits full"

-- The edit may be accepted on a map after `accepted` edits: its cells are inside, no two changes name the same cell,
-- the map after the whole edit may be searched, and the log is not full.
pub record MayBeAccepted (map : Map) (accepted : ℕ) (edit : Edit) : Type 0 where
  pub inside : ChangesInside map edit
  pub once : HasNoRepeats edit
  pub few : IsSearchable (edited map edit)
  pub room : accepted < MAX_EDITS

-- why it is refused: the first reason
abbrev pub IsRefusal : Map → ℕ → Edit → EditRefusal → Type 0
IsRefusal map accepted edit Outside = ChangesInside map edit → ⊥
IsRefusal map accepted edit Repeated = ChangesInside map edit × (HasNoRepeats edit → ⊥)
IsRefusal map accepted edit TooManyCells =
    ChangesInside map edit × HasNoRepeats edit × (IsSearchable (edited map edit) → ⊥)
IsRefusal map accepted edit EditsFull =
    ChangesInside map edit × HasNoRepeats edit × IsSearchable (edited map edit) × (MAX_EDITS ≤ accepted)
