-- The text of scenarios. (MovingAI scenario format page, version 1)
-- Lines are judged from the first to the last; in a line the number of its fields, and then each field from the left.
-- The first refusal is the answer.
use Rattle.std.specs.Prelude.{ℕ, ◌+◌, ◌*◌, ◌^◌, Bool, ◌&&◌, ◌||◌, ◌==◌, nat_le, nat_lt, if◌then◌else◌, List, [], ◌∷◌, ◌++◌, length, take, drop, replicate, slice_index_or, Option, Some, None, option_and_then, Result, Ok, codes}
use Rattle.std.specs.Option.{option_map}
use Rattle.std.specs.List.{slice_split}
use Rattle.std.specs.Str.{all_ascii_digits}
use Rattle.moves.specs.declared.Cell.{Cell}
use Rattle.text_lines.specs.Judging.{◌>>=◌, wanted, checked}
use Rattle.text_lines.specs.Lines.{lines_of}
use Rattle.text_lines.specs.Numbers.{number_after, number_in, number_at_most}
use Rattle.text_lines.specs.Words.{has_words, is_blank}
use Rattle.scen_read.specs.declared.fault.ScenFault.{ScenFault}
use Rattle.scen_read.specs.declared.fault.ScenFault.TheVariants.{Version, Fields, Number}
use Rattle.scen_read.specs.declared.scenario.ScenLine.{ScenLine}
use Rattle.scen_read.specs.Fields.{fields_of, field_at}

-- ---- one field

-- the greatest number of a field, and the greatest coordinate
abbrev pub greatest_number : ℕ
greatest_number = 4294967295

abbrev pub greatest_coordinate : ℕ
greatest_coordinate = 65535

-- the units of 10^-9 in decimals: the first nine count, and where there are fewer, zeros follow
abbrev pub nanos_in : List ℕ → ℕ
nanos_in digits = number_after 0 (take 9 (digits ++ replicate 9 48))

-- the digits before the point: one to seven
abbrev pub whole_in : List ℕ → Option ℕ
whole_in digits = if nat_le (length digits) 7 then number_in digits else None

-- the digits after the point: one or more
abbrev pub decimals_in : List ℕ → Option ℕ
decimals_in digits = if nat_lt 0 (length digits) && all_ascii_digits digits then Some (nanos_in digits) else None

-- a length of these parts between points, in units of 10^-9
abbrev pub length_of_parts : List (List ℕ) → Option ℕ
length_of_parts [] = None
length_of_parts (whole ∷ []) = option_map (λ n. n * 10 ^ 9) (whole_in whole)
length_of_parts (whole ∷ decimals ∷ []) =
    option_and_then (λ n. option_map (λ nano. n * 10 ^ 9 + nano) (decimals_in decimals)) (whole_in whole)
length_of_parts (whole ∷ decimals ∷ other ∷ parts) = None

-- The length that a field states, in units of 10^-9: `2.02` is 2,020,000,000.
-- One to seven digits, and then nothing, or a point and one digit or more; those past the ninth are dropped.
unfoldable pub length_in : List ℕ → Option ℕ
length_in field = length_of_parts (slice_split (λ byte. byte == 46) field)

-- what a field that is a number says: a length in field 9, a coordinate in fields 5 to 8, and a number in the others
abbrev pub value_in : ℕ → List ℕ → Option ℕ
value_in place field =
    if place == 9 then length_in field
    else (if nat_lt place 5 then number_at_most greatest_number field else number_at_most greatest_coordinate field)

-- ---- one line

-- the number in this field of a line
abbrev pub number_field : ℕ → ℕ → List (List ℕ) → Result ℕ ScenFault
number_field line place fields = wanted (value_in place (field_at fields place)) (Number line place)

-- the cell with its column in this field and its row in the next
abbrev pub cell_field : ℕ → ℕ → List (List ℕ) → Result Cell ScenFault
cell_field line place fields = do
  x ← number_field line place fields
  y ← number_field line (place + 1) fields
  Ok (record { x = x; y = y })

-- the scenario with these values and the map name of these fields
abbrev pub scenario_with : List (List ℕ) → ℕ → ℕ → ℕ → Cell → Cell → ℕ → ScenLine
scenario_with fields bucket width height start goal nano = record {
  bucket = bucket;
  name = field_at fields 2;
  width = width;
  height = height;
  start = start;
  goal = goal;
  nano = nano;
}

-- the scenario of these fields: bucket, map name, map width and height, start, goal, length
unfoldable pub scenario_of : ℕ → List (List ℕ) → Result ScenLine ScenFault
scenario_of line fields = do
  nine ← checked (length fields == 9) fields (Fields line (length fields))
  bucket ← number_field line 1 fields
  width ← number_field line 3 fields
  height ← number_field line 4 fields
  start ← cell_field line 5 fields
  goal ← cell_field line 7 fields
  nano ← number_field line 9 fields
  Ok (scenario_with fields bucket width height start goal nano)

-- ---- the whole text

-- the first line says which version it is
abbrev pub is_version_line : List ℕ → Bool
is_version_line line =
    has_words (codes "version" ∷ codes "1" ∷ []) line || has_words (codes "version" ∷ codes "1.0" ∷ []) line

-- the scenarios before, and those of the lines, of which the first has this number
unfoldable pub scenarios_in : ℕ → List ScenLine → List (List ℕ) → Result (List ScenLine) ScenFault
scenarios_in number before [] = Ok before
scenarios_in number before (line ∷ lines) =
    if is_blank line then scenarios_in (number + 1) before lines
    else (scenario_of number (fields_of line) >>= λ scenario. scenarios_in (number + 1) (before ++ scenario ∷ []) lines)

-- the scenarios of a text, or its first refusal
unfoldable pub scenarios_of : List ℕ → Result (List ScenLine) ScenFault
scenarios_of text = do
  version ← checked (is_version_line (slice_index_or (lines_of text) 0 [])) text Version
  scenarios_in 2 [] (drop 1 (lines_of text))
