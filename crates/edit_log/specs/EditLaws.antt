-- Laws of edits.
use Rattle.std.specs.Prelude.{◌≡◌, ℕ, List, ◌++◌, length}
use Rattle.moves.specs.Maps.{Map}
use Rattle.edit_log.specs.declared.edit.Edit.{Edit}
use Rattle.edit_log.specs.declared.verdict.EditRefusal.{EditRefusal}
use Rattle.edit_log.specs.Edits.{map_after}
use Rattle.edit_log.specs.Verdicts.{IsRefusal, MayBeAccepted}

-- the two maps have the same sides, and as many cells
pub record HasSameSides (map other : Map) : Type 0 where
  pub width : other.width ≡ map.width
  pub height : other.height ≡ map.height
  pub cells : length other.terrain ≡ length map.terrain

-- edits keep the sides of a map, so cells inside it stay inside
abbrev pub EditsKeepSides : Type 0
EditsKeepSides = (map : Map) (edits : List Edit) → HasSameSides map (map_after map edits)

-- the map after some edits and then more is the map after the first ones, changed by the rest
abbrev pub EditsGoOn : Type 0
EditsGoOn = (map : Map) (edits more : List Edit) → map_after map (edits ++ more) ≡ map_after (map_after map edits) more

-- an edit has only one verdict on a map: it is not both accepted and refused, and it is refused for only one reason
pub record HasOneVerdict (map : Map) (accepted : ℕ) (edit : Edit) : Type 0 where
  pub refused : (cause : EditRefusal) → IsRefusal map accepted edit cause → MayBeAccepted map accepted edit → ⊥
  pub once : (one other : EditRefusal) → IsRefusal map accepted edit one → IsRefusal map accepted edit other → one ≡ other

abbrev pub EditsHaveOneVerdict : Type 0
EditsHaveOneVerdict = (map : Map) (accepted : ℕ) (edit : Edit) → HasOneVerdict map accepted edit
