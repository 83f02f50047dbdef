-- The lines of a text.
use Rattle.std.specs.Prelude.{ℕ, ◌-◌, ◌==◌, if◌then◌else◌, List, [], ◌∷◌, ◌++◌, length, take, slice_index}
use Rattle.std.specs.List.{slice_split, flat_map}

-- the pieces of a text between its line feeds
abbrev pub pieces : List ℕ → List (List ℕ)
pieces text = slice_split (λ byte. byte == 10) text

-- a line without the one carriage return at its end
unfoldable pub without_return : List ℕ → List ℕ
without_return line =
    let last = length line - 1 in
    if slice_index line last == 13 then take last line else line

-- what follows the last line feed is a line only where it is not empty
abbrev pub last_line : List ℕ → List (List ℕ)
last_line [] = []
last_line (byte ∷ line) = (byte ∷ line) ∷ []

-- each piece makes a line
unfoldable pub lines_in : List (List ℕ) → List (List ℕ)
lines_in [] = []
lines_in (piece ∷ []) = last_line (without_return piece)
lines_in (piece ∷ next ∷ others) = without_return piece ∷ lines_in (next ∷ others)

-- the lines of a text: `a`, CR, LF, LF, `b` has three, `a`, an empty one and `b`; `a`, LF, CR has one
unfoldable pub lines_of : List ℕ → List (List ℕ)
lines_of text = lines_in (pieces text)

-- a line with its line feed
abbrev pub with_feed : List ℕ → List ℕ
with_feed line = line ++ 10 ∷ []

-- the text that has these lines, each with its line feed
abbrev pub text_with_lines : List (List ℕ) → List ℕ
text_with_lines lines = flat_map with_feed lines
