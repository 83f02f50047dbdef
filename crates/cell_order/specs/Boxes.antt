-- Marks on the cells of a rectangle.
use Rattle.std.specs.Prelude.{◌≡◌, ◌*◌, ◌↔◌, Bool, true, false, List, Contains, replicate, slice_index_or, slice_set}
use Rattle.moves.specs.declared.Cell.{Cell}
use Rattle.moves.specs.Rectangles.{Rectangle, IsWithin, place_in}

-- a rectangle, and for each of its cells, row by row, whether it is marked
pub record Box : Type 0 where
  pub area : Rectangle
  pub marks : List Bool

-- the cell is marked
pub record IsMarked (box : Box) (cell : Cell) : Type 0 where
  pub within : IsWithin box.area cell
  pub marked : slice_index_or box.marks (place_in box.area cell) false ≡ true

-- exactly these cells are marked
abbrev pub HasMarksOn : Box → List Cell → Type 0
HasMarksOn box cells = (cell : Cell) → IsMarked box cell ↔ Contains cells cell

-- there is a mark for each cell of the rectangle, and none is set
abbrev pub HasNoMarks : Box → Type 0
HasNoMarks box = box.marks ≡ replicate (box.area.width * box.area.height) false

-- the box with the mark of that cell set or cleared
abbrev pub with_mark : Box → Cell → Bool → Box
with_mark box cell mark = record box { marks = slice_set box.marks (place_in box.area cell) mark }
