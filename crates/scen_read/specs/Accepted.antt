-- The texts that stand for scenarios, told line by line.
use Rattle.std.specs.Prelude.{◌≡◌, ℕ, ◌⊎◌, ◌↔◌, true, false, List, [], ◌∷◌, length, drop, slice_index_or, Some, Ok, codes}
use Rattle.text_lines.specs.Lines.{lines_of}
use Rattle.text_lines.specs.Numbers.{number_at_most}
use Rattle.text_lines.specs.Words.{words_of, is_blank}
use Rattle.scen_read.specs.declared.scenario.ScenLine.{ScenLine}
use Rattle.scen_read.specs.Fields.{fields_of, field_at}
use Rattle.scen_read.specs.ScenText.{greatest_number, greatest_coordinate, length_in, scenarios_of}

-- the fields say the scenario, each its own part of it
pub record SayScenario (fields : List (List ℕ)) (scenario : ScenLine) : Type 0 where
  pub nine : length fields ≡ 9
  pub bucket : number_at_most greatest_number (field_at fields 1) ≡ Some scenario.bucket
  pub name : field_at fields 2 ≡ scenario.name
  pub width : number_at_most greatest_number (field_at fields 3) ≡ Some scenario.width
  pub height : number_at_most greatest_number (field_at fields 4) ≡ Some scenario.height
  pub start_x : number_at_most greatest_coordinate (field_at fields 5) ≡ Some scenario.start.x
  pub start_y : number_at_most greatest_coordinate (field_at fields 6) ≡ Some scenario.start.y
  pub goal_x : number_at_most greatest_coordinate (field_at fields 7) ≡ Some scenario.goal.x
  pub goal_y : number_at_most greatest_coordinate (field_at fields 8) ≡ Some scenario.goal.y
  pub nano : length_in (field_at fields 9) ≡ Some scenario.nano

-- the line is not blank and says the scenario
abbrev pub IsScenario : List ℕ → ScenLine → Type 0
IsScenario line scenario = (is_blank line ≡ false) × SayScenario (fields_of line) scenario

-- the lines are these scenarios in their order, and blank lines between them
unfoldable pub AreScenarios : List (List ℕ) → List ScenLine → Type 0
AreScenarios [] scenarios = scenarios ≡ []
AreScenarios (line ∷ lines) scenarios =
    ((is_blank line ≡ true) × AreScenarios lines scenarios)
    ⊎ ((scenario : ScenLine) × (others : List ScenLine) × (scenarios ≡ scenario ∷ others) × IsScenario line scenario
    × AreScenarios lines others)

-- the line has the words of version 1
abbrev pub IsVersionLine : List ℕ → Type 0
IsVersionLine line =
    (words_of line ≡ codes "version" ∷ codes "1" ∷ []) ⊎ (words_of line ≡ codes "version" ∷ codes "1.0" ∷ [])

-- the text stands for the scenarios
pub record IsScenarioText (text : List ℕ) (scenarios : List ScenLine) : Type 0 where
  pub version : IsVersionLine (slice_index_or (lines_of text) 0 [])
  pub scenarios_are : AreScenarios (drop 1 (lines_of text)) scenarios

-- a text is accepted exactly where it stands for scenarios, and then with these
abbrev pub AcceptsExactlyScenarioTexts : Type 0
AcceptsExactlyScenarioTexts =
    (text : List ℕ) (scenarios : List ScenLine) → (scenarios_of text ≡ Ok scenarios) ↔ IsScenarioText text scenarios
