-- The words of a line, and a line without the spaces and tabs round what it says.
use Rattle.std.specs.Prelude.{ℕ, Bool, ◌||◌, ◌==◌, nat_lt, if◌then◌else◌, List, [], ◌∷◌, length, filter, Option, Some, None}
use Rattle.std.specs.List.{slice_split, list_all}
use Rattle.std.specs.Cmp.Lexicographic.{pointwise}
use Rattle.std.specs.Str.{bytes_eq}

-- a space or a tab
abbrev pub is_gap : ℕ → Bool
is_gap byte = (byte == 32) || (byte == 9)

-- a line with no byte other than spaces and tabs
abbrev pub is_blank : List ℕ → Bool
is_blank line = list_all is_gap line

-- a piece with at least one byte
abbrev pub is_some_piece : List ℕ → Bool
is_some_piece piece = nat_lt 0 (length piece)

-- the pieces of a text between runs of bytes that pass the test
abbrev pub runs_of : (ℕ → Bool) → List ℕ → List (List ℕ)
runs_of parts text = filter is_some_piece (slice_split parts text)

-- the words of a line: its pieces between runs of spaces and tabs
unfoldable pub words_of : List ℕ → List (List ℕ)
words_of line = runs_of is_gap line

-- the line has exactly these words
unfoldable pub has_words : List (List ℕ) → List ℕ → Bool
has_words words line = pointwise bytes_eq (words_of line) words

-- the two, where there are two and no more
abbrev pub two_of : List (List ℕ) → Option (List ℕ × List ℕ)
two_of [] = None
two_of (first ∷ []) = None
two_of (first ∷ second ∷ []) = Some (first, second)
two_of (first ∷ second ∷ third ∷ others) = None

-- a line without the spaces and tabs at its end
unfoldable pub without_gaps_at_end : List ℕ → List ℕ
without_gaps_at_end [] = []
without_gaps_at_end (byte ∷ line) =
    if is_blank (byte ∷ line) then [] else (byte ∷ without_gaps_at_end line)

-- a line without the spaces and tabs at its start
unfoldable pub without_gaps_at_start : List ℕ → List ℕ
without_gaps_at_start [] = []
without_gaps_at_start (byte ∷ line) = if is_gap byte then without_gaps_at_start line else (byte ∷ line)

-- a line without the spaces and tabs at both
abbrev pub without_gaps : List ℕ → List ℕ
without_gaps line = without_gaps_at_end (without_gaps_at_start line)
