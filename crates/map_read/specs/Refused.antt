-- What the error for a text says: the line or the cell that it names is at fault, and nothing before it is.
use Rattle.std.specs.Prelude.{◌≡◌, ◌≢◌, ℕ, ◌+◌, ◌*◌, ◌<◌, ◌≤◌, ◌⊎◌, false, true, IsTrue, List, [], ◌∷◌, ◌++◌, length, take, drop, slice_index, Some, None, Err, codes}
use Rattle.std.specs.List.{AllByRecursion}
use Rattle.moves.specs.declared.TheConstants.{MAX_CELLS, MAX_PASSABLE}
use Rattle.moves.specs.declared.Terrain.{Terrain}
use Rattle.moves.specs.declared.Terrain.TheVariants.{Land, Water}
use Rattle.text_lines.specs.Lines.{lines_of}
use Rattle.text_lines.specs.Words.{words_of, is_blank, without_gaps_at_end}
use Rattle.map_read.specs.declared.fault.MapFault.{MapFault}
use Rattle.map_read.specs.declared.fault.MapFault.TheVariants.{Header, Size, RowLength, BadCell, MissingRows, Extra, TooManyCells}
use Rattle.map_read.specs.MapText.{number_named, line_at, is_side_length, terrain_for, free_in, map_of}
use Rattle.map_read.specs.Accepted.{StandFor, AreRows, AreSidesGiven, IsHeader}

-- ---- the header

-- one name is that of one side, and the other that of the other side
abbrev pub AreSideNames : List ℕ → List ℕ → Type 0
AreSideNames name other =
    ((name ≡ codes "height") × (other ≡ codes "width")) ⊎ ((name ≡ codes "width") × (other ≡ codes "height"))

-- line 1 is right, and line 2 gives this number under one name, so line 3 must give a number under the other
pub record IsSideGiven (lines : List (List ℕ)) (other : List ℕ) (number : ℕ) : Type 0 where
  pub name : List ℕ
  pub kind : words_of (line_at lines 1) ≡ codes "type" ∷ codes "octile" ∷ []
  pub names : AreSideNames name other
  pub given : number_named name (line_at lines 2) ≡ Some number

-- line 1 is right, but line 2 gives no side
pub record IsNoSide (lines : List (List ℕ)) : Type 0 where
  pub kind : words_of (line_at lines 1) ≡ codes "type" ∷ codes "octile" ∷ []
  pub no_height : number_named (codes "height") (line_at lines 2) ≡ None
  pub no_width : number_named (codes "width") (line_at lines 2) ≡ None

-- line 2 gives a side that a map may have, but line 3 does not give the other side
pub record IsNoOtherSide (lines : List (List ℕ)) : Type 0 where
  pub other : List ℕ
  pub number : ℕ
  pub before : IsSideGiven lines other number
  pub fits : is_side_length number ≡ true
  pub none : number_named other (line_at lines 3) ≡ None

-- line 2 gives a side that no map may have
pub record IsBadSide (lines : List (List ℕ)) : Type 0 where
  pub other : List ℕ
  pub number : ℕ
  pub given : IsSideGiven lines other number
  pub unfit : is_side_length number ≡ false

-- line 3 gives the other side, but no map may have it, or the two make too many cells
pub record IsBadOtherSide (lines : List (List ℕ)) : Type 0 where
  pub other : List ℕ
  pub number : ℕ
  pub length_here : ℕ
  pub before : IsSideGiven lines other number
  pub fits : is_side_length number ≡ true
  pub given : number_named other (line_at lines 3) ≡ Some length_here
  pub unfit : (is_side_length length_here ≡ false) ⊎ (MAX_CELLS < number * length_here)

-- the lines before line 4 are right, but line 4 is not the word `map`
pub record IsNoMark (lines : List (List ℕ)) : Type 0 where
  pub width : ℕ
  pub height : ℕ
  pub before : AreSidesGiven lines width height
  pub other : words_of (line_at lines 4) ≢ codes "map" ∷ []

-- a line of the header has the wrong form, and no line before it is at fault
abbrev pub IsFormFault : List (List ℕ) → ℕ → Type 0
IsFormFault lines line =
    ((line ≡ 1) × (words_of (line_at lines 1) ≢ codes "type" ∷ codes "octile" ∷ []))
    ⊎ (((line ≡ 2) × IsNoSide lines) ⊎ (((line ≡ 3) × IsNoOtherSide lines) ⊎ ((line ≡ 4) × IsNoMark lines)))

-- a line of the header gives a side that no map may have, and no line before it is at fault
abbrev pub IsRangeFault : List (List ℕ) → ℕ → Type 0
IsRangeFault lines line = ((line ≡ 2) × IsBadSide lines) ⊎ ((line ≡ 3) × IsBadOtherSide lines)

-- ---- the rows

-- the header is right, and the first `rows` rows stand for these cells
pub record IsReadTo (lines : List (List ℕ)) (width height rows : ℕ) (cells : List Terrain) : Type 0 where
  pub header : IsHeader lines width height
  pub above : AreRows width rows cells (drop 4 lines)
  pub few : free_in cells ≤ MAX_PASSABLE

-- the line of row y without the spaces and tabs at its end
abbrev pub row_bytes : List (List ℕ) → ℕ → List ℕ
row_bytes lines y = without_gaps_at_end (line_at lines (5 + y))

-- everything before row y is right, its line is there, and IsSo holds for the width, the row and the cells above it
pub record HasRow (lines : List (List ℕ)) (y : ℕ) (IsSo : ℕ → List ℕ → List Terrain → Type 0) : Type 0 where
  pub width : ℕ
  pub height : ℕ
  pub cells : List Terrain
  pub before : IsReadTo lines width height y cells
  pub inside : y < height
  pub there : 4 + y < length lines
  pub so : IsSo width (row_bytes lines y) cells

-- Column x of a row has this byte, and the bytes before it stand for cells. Of these cells and those above the row,
-- `free` are passable.
pub record IsByteAt (row : List ℕ) (above : List Terrain) (x byte free : ℕ) : Type 0 where
  pub left : List Terrain
  pub bytes : StandFor (take x row) left
  pub column : x < length row
  pub byte_is : slice_index row x ≡ byte
  pub free_is : free ≡ free_in (above ++ left)
  pub few : free ≤ MAX_PASSABLE

-- the row is as wide as the map, and has this byte in column x
abbrev pub IsByteOfRow : ℕ → ℕ → ℕ → ℕ → List ℕ → List Terrain → Type 0
IsByteOfRow x byte free width row above = (length row ≡ width) × IsByteAt row above x byte free

-- a byte that stands for no cell
abbrev pub IsBadCell : ℕ → ℕ → ℕ → List ℕ → List Terrain → Type 0
IsBadCell x byte width row above =
    (terrain_for byte ≡ None) × ((free : ℕ) × IsByteOfRow x byte free width row above)

-- a byte of a passable cell
abbrev pub IsPassableByte : ℕ → Type 0
IsPassableByte byte = (terrain_for byte ≡ Some Land) ⊎ (terrain_for byte ≡ Some Water)

-- a passable cell after 32,768 others
abbrev pub IsOneCellTooMany : ℕ → ℕ → List ℕ → List Terrain → Type 0
IsOneCellTooMany x width row above =
    (byte : ℕ) × IsPassableByte byte × IsByteOfRow x byte MAX_PASSABLE width row above

-- ---- after the rows

-- the rows are right, but the text ends before the last of them
pub record AreRowsMissing (lines : List (List ℕ)) (found : ℕ) : Type 0 where
  pub width : ℕ
  pub height : ℕ
  pub cells : List Terrain
  pub before : IsReadTo lines width height found cells
  pub fewer : found < height
  pub end : length lines ≤ 4 + found

-- all rows are right, a number of blank lines follows them, and the line after those is not blank
pub record IsExtraLine (lines : List (List ℕ)) (line : ℕ) : Type 0 where
  pub width : ℕ
  pub height : ℕ
  pub cells : List Terrain
  pub blanks : ℕ
  pub before : IsReadTo lines width height height cells
  pub blank : AllByRecursion (λ blank_line. IsTrue (is_blank blank_line)) (take blanks (drop (4 + height) lines))
  pub number : line ≡ 5 + height + blanks
  pub there : 4 + height + blanks < length lines
  pub text : is_blank (line_at lines line) ≡ false

-- ---- the first fault

-- the error names what is at fault, and nothing before it is
abbrev pub IsFirstFault : List (List ℕ) → MapFault → Type 0
IsFirstFault lines (Header line) = IsFormFault lines line
IsFirstFault lines (Size line) = IsRangeFault lines line
IsFirstFault lines (RowLength line expected found) =
    (y : ℕ) × (line ≡ 5 + y)
    × HasRow lines y (λ width row above. (expected ≡ width) × (found ≡ length row) × (found ≢ expected))
IsFirstFault lines (BadCell x y byte) = HasRow lines y (IsBadCell x byte)
IsFirstFault lines (TooManyCells x y) = HasRow lines y (IsOneCellTooMany x)
IsFirstFault lines (MissingRows found) = AreRowsMissing lines found
IsFirstFault lines (Extra line) = IsExtraLine lines line

-- if a text is refused, the error names the first fault
abbrev pub RefusalsNameTheFirstFault : Type 0
RefusalsNameTheFirstFault =
    (text : List ℕ) (fault : MapFault) → map_of text ≡ Err fault → IsFirstFault (lines_of text) fault
