-- The fields of a scenario line. (This project's own rule for the format of the MovingAI scenario page.)
use Rattle.std.specs.Prelude.{ℕ, ◌-◌, Bool, ◌==◌, if◌then◌else◌, List, [], ◌∷◌, map, filter, slice_index_or}
use Rattle.std.specs.List.{slice_split, list_any}
use Rattle.text_lines.specs.Words.{is_some_piece, without_gaps, without_gaps_at_end}

abbrev pub is_tab : ℕ → Bool
is_tab byte = byte == 9

abbrev pub is_space : ℕ → Bool
is_space byte = byte == 32

-- pieces of which all but the first have to have a byte
abbrev pub after_first_some : List (List ℕ) → List (List ℕ)
after_first_some [] = []
after_first_some (first ∷ others) = first ∷ filter is_some_piece others

-- the pieces between tabs, without the spaces round them: `a`, tab, space, `b` has `a` and `b`
abbrev pub tab_fields : List ℕ → List (List ℕ)
tab_fields text = map without_gaps (slice_split is_tab text)

-- the pieces between runs of spaces: `a`, space, space, `b` has `a` and `b`
-- A line that begins with a space has an empty first one.
abbrev pub space_fields : List ℕ → List (List ℕ)
space_fields text = after_first_some (slice_split is_space text)

-- the fields in a text: those between tabs where there is a tab
unfoldable pub fields_in : List ℕ → List (List ℕ)
fields_in text = if list_any is_tab text then tab_fields text else space_fields text

-- the fields of a line, after the spaces and tabs at its end are dropped
abbrev pub fields_of : List ℕ → List (List ℕ)
fields_of line = fields_in (without_gaps_at_end line)

-- the field with that number, from 1
abbrev pub field_at : List (List ℕ) → ℕ → List ℕ
field_at fields number = slice_index_or fields (number - 1) []
