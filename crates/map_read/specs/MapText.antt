-- The text of a map. (MovingAI map format page)
-- The header and the rows are checked from the first line to the last, and the first fault is returned.
use Rattle.std.specs.Prelude.{◌≡◌, ℕ, zero, suc, ◌+◌, ◌-◌, ◌*◌, Bool, not, ◌&&◌, ◌||◌, ◌==◌, nat_lt, nat_le, if◌then◌else◌, List, [], ◌∷◌, ◌++◌, map, length, take, drop, count_by, slice_index_or, Option, Some, None, option_and_then, Result, Ok, Err, codes}
use Rattle.std.specs.Str.{bytes_eq}
use Rattle.std.specs.Fmt.{decimal}
use Rattle.moves.specs.Maps.{Map, IsWithinLimits, IsSearchable, is_passable}
use Rattle.moves.specs.declared.Terrain.{Terrain}
use Rattle.moves.specs.declared.Terrain.TheVariants.{Blocked, Land, Water}
use Rattle.moves.specs.declared.TheConstants.{MAX_SIDE, MAX_CELLS, MAX_PASSABLE}
use Rattle.text_lines.specs.Judging.{◌>>=◌, wanted, checked}
use Rattle.text_lines.specs.Lines.{lines_of, text_with_lines}
use Rattle.text_lines.specs.Numbers.{number_in}
use Rattle.text_lines.specs.Words.{words_of, two_of, has_words, is_blank, without_gaps_at_end}
use Rattle.map_read.specs.declared.fault.MapFault.{MapFault}
use Rattle.map_read.specs.declared.fault.MapFault.TheVariants.{Header, Size, RowLength, BadCell, MissingRows, Extra, TooManyCells}

-- ---- the header

-- the number that a line gives under a name: the line's words are the name and a number, and nothing else
unfoldable pub number_named : List ℕ → List ℕ → Option ℕ
number_named name line =
    option_and_then (λ two. if bytes_eq two.0 name then number_in two.1 else None) (two_of (words_of line))

-- a side that a map may have
abbrev pub is_side_length : ℕ → Bool
is_side_length n = nat_le 1 n && nat_le n MAX_SIDE

-- a width and a height that a map may have
abbrev pub are_map_sides : ℕ → ℕ → Bool
are_map_sides width height =
    is_side_length width && is_side_length height && nat_le (width * height) MAX_CELLS

-- line 2 gives one side, and line 3 the other
abbrev pub other_side : ℕ → Option ℕ → Result ℕ MapFault
other_side one other = do
  line_two ← checked (is_side_length one) one (Size 2)
  wanted other (Header 3)

-- the width and the height, if a map may have them
abbrev pub judged_sides : ℕ → ℕ → Result (ℕ × ℕ) MapFault
judged_sides width height = checked (are_map_sides width height) (width, height) (Size 3)

-- The width and the height, from what lines 2 and 3 give as height and as width. The form of a line is checked before
-- its range.
unfoldable pub sides_given : Option ℕ → Option ℕ → Option ℕ → Option ℕ → Result (ℕ × ℕ) MapFault
sides_given (Some height) second_width third_height third_width = do
  width ← other_side height third_width
  judged_sides width height
sides_given None (Some width) third_height third_width = do
  height ← other_side width third_height
  judged_sides width height
sides_given None None third_height third_width = Err (Header 2)

-- the width and the height that lines 2 and 3 give
abbrev pub sides_from : List ℕ → List ℕ → Result (ℕ × ℕ) MapFault
sides_from second third =
    sides_given (number_named (codes "height") second) (number_named (codes "width") second)
    (number_named (codes "height") third) (number_named (codes "width") third)

-- The line with that number, from 1. A missing line counts as empty: no line of the header may be empty, so both are
-- the same fault.
abbrev pub line_at : List (List ℕ) → ℕ → List ℕ
line_at lines number = slice_index_or lines (number - 1) []

-- the width and the height that the first four lines give
unfoldable pub header_in : List (List ℕ) → Result (ℕ × ℕ) MapFault
header_in lines = do
  kind ← checked (has_words (codes "type" ∷ codes "octile" ∷ []) (line_at lines 1)) lines (Header 1)
  sides ← sides_from (line_at lines 2) (line_at lines 3)
  checked (has_words (codes "map" ∷ []) (line_at lines 4)) sides (Header 4)

-- ---- the rows

-- `.`, `G` and `S` are land
abbrev pub is_land_byte : ℕ → Bool
is_land_byte byte = (byte == 46) || (byte == 71) || (byte == 83)

-- `@`, `O` and `T` are blocked
abbrev pub is_blocked_byte : ℕ → Bool
is_blocked_byte byte = (byte == 64) || (byte == 79) || (byte == 84)

-- `W` is water
abbrev pub is_water_byte : ℕ → Bool
is_water_byte byte = byte == 87

-- what a byte stands for
unfoldable pub terrain_for : ℕ → Option Terrain
terrain_for byte =
    if is_land_byte byte then Some Land
    else (if is_water_byte byte then Some Water
    else (if is_blocked_byte byte then Some Blocked else None))

-- One cell, after `free` passable ones. A map that can be read has at most 32,768 passable cells, land and water
-- together.
unfoldable pub cell_of : ℕ → ℕ → ℕ → ℕ → Result Terrain MapFault
cell_of x y byte free = do
  terrain ← wanted (terrain_for byte) (BadCell x y byte)
  checked (not (is_passable terrain) || nat_lt free MAX_PASSABLE) terrain (TooManyCells x y)

-- how many of the cells are passable
abbrev pub free_in : List Terrain → ℕ
free_in cells = count_by is_passable cells

-- the cells before a place in row y, followed by those of the row from there on, left to right
unfoldable pub cells_in : ℕ → ℕ → List Terrain → List ℕ → Result (List Terrain) MapFault
cells_in y x before [] = Ok before
cells_in y x before (byte ∷ row) = do
  terrain ← cell_of x y byte (free_in before)
  cells_in y (x + 1) (before ++ terrain ∷ []) row

-- the bytes of row y: the spaces and tabs at the line's end are dropped, then its length is checked
unfoldable pub row_in : ℕ → ℕ → List ℕ → Result (List ℕ) MapFault
row_in width y line =
    let row = without_gaps_at_end line in
    checked (length row == width) row (RowLength (5 + y) width (length row))

-- the cells before row y, followed by those of the given number of rows from there on, one row in each line
unfoldable pub rows_in : ℕ → ℕ → ℕ → List Terrain → List (List ℕ) → Result (List Terrain) MapFault
rows_in width y zero before lines = Ok before
rows_in width y (suc more) before [] = Err (MissingRows y)
rows_in width y (suc more) before (line ∷ lines) = do
  row ← row_in width y line
  cells ← cells_in y 0 before row
  rows_in width (y + 1) more cells lines

-- ---- the whole text

-- the number of the first line that is not blank, if the first line has that number
unfoldable pub extra_in : ℕ → List (List ℕ) → Option ℕ
extra_in number [] = None
extra_in number (line ∷ lines) = if is_blank line then extra_in (number + 1) lines else Some number

-- the map, if only blank lines follow its rows
abbrev pub ended : Map → Option ℕ → Result Map MapFault
ended m None = Ok m
ended m (Some line) = Err (Extra line)

-- what a text stands for: its map, or its first fault
unfoldable pub map_of : List ℕ → Result Map MapFault
map_of text = do
  sides ← header_in (lines_of text)
  cells ← rows_in sides.0 0 sides.1 [] (drop 4 (lines_of text))
  ended (record { width = sides.0; height = sides.1; terrain = cells })
      (extra_in (5 + sides.1) (drop (4 + sides.1) (lines_of text)))

-- ---- the canonical text

-- land is `.`, water `W` and a blocked cell `@`
abbrev pub glyph : Terrain → ℕ
glyph Land = 46
glyph Water = 87
glyph Blocked = 64

-- the rows of the canonical text
unfoldable pub row_texts : ℕ → ℕ → List Terrain → List (List ℕ)
row_texts width zero cells = []
row_texts width (suc more) cells = map glyph (take width cells) ∷ row_texts width more (drop width cells)

-- the header of the canonical text
abbrev pub header_texts : ℕ → ℕ → List (List ℕ)
header_texts width height =
    codes "type octile" ∷ (codes "height " ++ decimal height) ∷ (codes "width " ++ decimal width)
    ∷ codes "map" ∷ []

-- the lines of the canonical text
abbrev pub line_texts : Map → List (List ℕ)
line_texts m = header_texts m.width m.height ++ row_texts m.width m.height m.terrain

-- the canonical text
unfoldable pub text_of : Map → List ℕ
text_of m = text_with_lines (line_texts m)

-- reading the canonical text of a map gives that map
abbrev pub CanonicalTextReadsBack : Type 0
CanonicalTextReadsBack =
    (m : Map) → IsWithinLimits m.width m.height → length m.terrain ≡ m.width * m.height → IsSearchable m
    → map_of (text_of m) ≡ Ok m
