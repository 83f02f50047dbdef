-- What the refusal of a text says: the line or the field that it names is at fault, and nothing before it is.
use Rattle.std.specs.Prelude.{◌≡◌, ◌≢◌, ℕ, ◌-◌, ◌<◌, ◌≤◌, false, List, [], length, take, drop, slice_index_or, None, Err}
use Rattle.text_lines.specs.Lines.{lines_of}
use Rattle.text_lines.specs.Words.{is_blank}
use Rattle.scen_read.specs.declared.fault.ScenFault.{ScenFault}
use Rattle.scen_read.specs.declared.fault.ScenFault.TheVariants.{Version, Fields, Number}
use Rattle.scen_read.specs.declared.scenario.ScenLine.{ScenLine}
use Rattle.scen_read.specs.Fields.{fields_of, field_at}
use Rattle.scen_read.specs.ScenText.{value_in, scenarios_of}
use Rattle.scen_read.specs.Accepted.{IsVersionLine, AreScenarios}

-- the fields of the line with that number, from 1
abbrev pub fields_at : List (List ℕ) → ℕ → List (List ℕ)
fields_at lines number = fields_of (slice_index_or lines (number - 1) [])

-- The version line is right, and all further lines before this one are scenarios or blank.
-- This one is there, and it is not blank.
pub record IsReadTo (lines : List (List ℕ)) (line : ℕ) : Type 0 where
  pub scenarios : List ScenLine
  pub version : IsVersionLine (slice_index_or lines 0 [])
  pub after : 2 ≤ line
  pub before : AreScenarios (take (line - 2) (drop 1 lines)) scenarios
  pub there : line ≤ length lines
  pub text : is_blank (slice_index_or lines (line - 1) []) ≡ false

-- a field that has to be a number, as all but the second have to, and is one in its range
abbrev pub IsGoodField : List (List ℕ) → ℕ → Type 0
IsGoodField fields place = place ≢ 2 → value_in place (field_at fields place) ≢ None

-- the field is no number in its range, and each before it is as it has to be
pub record IsBadField (fields : List (List ℕ)) (place : ℕ) : Type 0 where
  pub nine : length fields ≡ 9
  pub first : 1 ≤ place
  pub last : place ≤ 9
  pub number : place ≢ 2
  pub none : value_in place (field_at fields place) ≡ None
  pub before : (other : ℕ) → 1 ≤ other → other < place → IsGoodField fields other

-- the refusal names what is at fault, and nothing before it is
abbrev pub IsFirstFault : List (List ℕ) → ScenFault → Type 0
IsFirstFault lines Version = IsVersionLine (slice_index_or lines 0 []) → ⊥
IsFirstFault lines (Fields line found) =
    IsReadTo lines line × (found ≡ length (fields_at lines line)) × (found ≢ 9)
IsFirstFault lines (Number line place) = IsReadTo lines line × IsBadField (fields_at lines line) place

-- where a text is refused, the refusal names the first fault
abbrev pub RefusalsNameTheFirstFault : Type 0
RefusalsNameTheFirstFault =
    (text : List ℕ) (fault : ScenFault) → scenarios_of text ≡ Err fault → IsFirstFault (lines_of text) fault
