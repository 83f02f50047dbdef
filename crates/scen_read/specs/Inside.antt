-- Words of the contracts inside this crate. The format does not need them.
use Rattle.std.specs.Prelude.{◌≡◌, ℕ, ◌+◌, ◌∷◌, ◌++◌, codes, Bool, true, false, ◌||◌, ◌==◌, List, [], drop, slice_index_or, Option, Result, Ok}
use Rattle.std.specs.Str.{bytes_eq}
use Rattle.moves.specs.declared.Cell.{Cell}
use Rattle.text_lines.specs.Judging.{◌>>=◌, wanted}
use Rattle.text_lines.specs.Numbers.{number_at_most}
use Rattle.text_lines.specs.Places.{IsFirstPlace}
use Rattle.scen_read.specs.declared.fault.ScenFault.{ScenFault}
use Rattle.scen_read.specs.declared.fault.ScenFault.TheVariants.{Number}
use Rattle.scen_read.specs.declared.scenario.Parts.{Parts}
use Rattle.scen_read.specs.declared.scenario.ScenLine.{ScenLine}
use Rattle.scen_read.specs.ScenText.{greatest_coordinate, length_in}
use Rattle.scen_read.specs.Fields.{is_tab, is_space, tab_fields, space_fields}

-- the fields that are still to come: none where nothing is left
abbrev pub fields_left : Bool → Bool → List ℕ → List (List ℕ)
fields_left false tabs text = []
fields_left true true text = tab_fields text
fields_left true false text = space_fields text

-- where the first tab stands, the first space, and the first byte that is no space
abbrev pub IsFirstTab : Option ℕ → List ℕ → Type 0
IsFirstTab place text = IsFirstPlace place (λ byte. is_tab byte ≡ true) (λ byte. is_tab byte ≡ false) text

abbrev pub IsFirstSpace : Option ℕ → List ℕ → Type 0
IsFirstSpace place text = IsFirstPlace place (λ byte. is_space byte ≡ true) (λ byte. is_space byte ≡ false) text

abbrev pub IsFirstOther : Option ℕ → List ℕ → Type 0
IsFirstOther place text = IsFirstPlace place (λ byte. is_space byte ≡ false) (λ byte. is_space byte ≡ true) text

-- where the first point stands
abbrev pub IsFirstPoint : Option ℕ → List ℕ → Type 0
IsFirstPoint place field = IsFirstPlace place (λ byte. (byte == 46) ≡ true) (λ byte. (byte == 46) ≡ false) field

-- the word is `1` or `1.0`
abbrev pub says_one : List ℕ → Bool
says_one word = bytes_eq word (codes "1") || bytes_eq word (codes "1.0")

-- the number in the first of the fields
abbrev pub next_number : ℕ → ℕ → ℕ → List (List ℕ) → Result ℕ ScenFault
next_number line place most fields = wanted (number_at_most most (slice_index_or fields 0 [])) (Number line place)

-- the length in the first of the fields, which is the ninth of its line
abbrev pub next_length : ℕ → List (List ℕ) → Result ℕ ScenFault
next_length line fields = wanted (length_in (slice_index_or fields 0 [])) (Number line 9)

-- the cell in the first two of the fields
abbrev pub next_cell : ℕ → ℕ → List (List ℕ) → Result Cell ScenFault
next_cell line place fields = do
  x ← next_number line place greatest_coordinate fields
  y ← next_number line (place + 1) greatest_coordinate (drop 1 fields)
  Ok (record { x = x; y = y })

-- the scenario of these parts
abbrev pub whole_scenario : Parts → ScenLine
whole_scenario p =
    record {
      bucket = p.bucket;
      name = p.name.now;
      width = p.width;
      height = p.height;
      start = p.start;
      goal = p.goal;
      nano = p.nano;
    }

-- a field and the byte after it
abbrev pub ended : List ℕ → ℕ → List ℕ
ended field end = field ++ end ∷ []
