-- The text that is written for scenarios, and which of them it gives back.
use Rattle.std.specs.Prelude.{◌≡◌, ◌≢◌, ℕ, zero, suc, ◌+◌, ◌/◌, ◌%◌, ◌^◌, ◌<◌, ◌≤◌, ◌-◌, List, [], ◌∷◌, ◌++◌, All, map, length, slice_index, Ok, codes}
use Rattle.std.specs.List.{join_with_byte}
use Rattle.std.specs.Fmt.{decimal}
use Rattle.text_lines.specs.Lines.{text_with_lines}
use Rattle.scen_read.specs.declared.scenario.ScenLine.{ScenLine}
use Rattle.scen_read.specs.ScenText.{greatest_number, greatest_coordinate, scenarios_of}

-- the last so many digits of a number
unfoldable pub last_digits : ℕ → ℕ → List ℕ
last_digits zero n = []
last_digits (suc count) n = (48 + n / 10 ^ count % 10) ∷ last_digits count n

-- a length in units of 10^-9: its whole part, a point and nine digits
abbrev pub length_text : ℕ → List ℕ
length_text nano = decimal (nano / 10 ^ 9) ++ 46 ∷ last_digits 9 nano

-- the fields of a scenario
abbrev pub field_texts : ScenLine → List (List ℕ)
field_texts s =
    decimal s.bucket ∷ s.name ∷ decimal s.width ∷ decimal s.height ∷ decimal s.start.x ∷ decimal s.start.y
    ∷ decimal s.goal.x ∷ decimal s.goal.y ∷ length_text s.nano ∷ []

-- the line of a scenario: its fields with a tab between each two
abbrev pub scenario_text : ScenLine → List ℕ
scenario_text s = join_with_byte 9 (field_texts s)

-- the text of scenarios: the version, and a line for each
unfoldable pub text_of : List ScenLine → List ℕ
text_of scenarios = text_with_lines (codes "version 1" ∷ map scenario_text scenarios)

-- The name of a map keeps its place in a line.
-- It has no tab and no line feed, and no space at its start or its end.
pub record IsName (name : List ℕ) : Type 0 where
  pub no_tab : All (λ byte. byte ≢ 9) name
  pub no_feed : All (λ byte. byte ≢ 10) name
  pub no_space_first : slice_index name 0 ≢ 32
  pub no_space_last : slice_index name (length name - 1) ≢ 32

-- the text of the scenario says it again: its name keeps its place, its length has at most seven digits before the point,
-- and its numbers are in the ranges of their types
pub record IsWritable (s : ScenLine) : Type 0 where
  pub name : IsName s.name
  pub nano : s.nano < 10 ^ 16
  pub bucket : s.bucket ≤ greatest_number
  pub width : s.width ≤ greatest_number
  pub height : s.height ≤ greatest_number
  pub start_x : s.start.x ≤ greatest_coordinate
  pub start_y : s.start.y ≤ greatest_coordinate
  pub goal_x : s.goal.x ≤ greatest_coordinate
  pub goal_y : s.goal.y ≤ greatest_coordinate

-- all scenarios are such
abbrev pub AreWritable : List ScenLine → Type 0
AreWritable scenarios = All IsWritable scenarios

-- reading the text of scenarios gives these scenarios
abbrev pub WrittenScenariosReadBack : Type 0
WrittenScenariosReadBack =
    (scenarios : List ScenLine) → AreWritable scenarios → scenarios_of (text_of scenarios) ≡ Ok scenarios
