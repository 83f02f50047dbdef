-- Rectangles of cells: some columns and some rows, starting at an upper left cell.
use Rattle.std.specs.Prelude.{ℕ, ◌+◌, ◌-◌, ◌*◌, ◌<◌, ◌≤◌}
use Rattle.moves.specs.declared.Cell.{Cell}
use Rattle.moves.specs.declared.TheConstants.{MAX_SIDE}

-- the cell can be on a map: its column and its row are below the limit on sides
pub record IsOnMap (cell : Cell) : Type 0 where
  pub column : cell.x < MAX_SIDE
  pub row : cell.y < MAX_SIDE

-- a rectangle by its first column, its first row and its sides
pub record Rectangle : Type 0 where
  pub left : ℕ
  pub top : ℕ
  pub width : ℕ
  pub height : ℕ

-- the cell lies in the rectangle
pub record IsWithin (area : Rectangle) (cell : Cell) : Type 0 where
  pub from_left : area.left ≤ cell.x
  pub to_right : cell.x < area.left + area.width
  pub from_top : area.top ≤ cell.y
  pub to_bottom : cell.y < area.top + area.height

-- the place of a cell in a list that goes through the rectangle row by row
abbrev pub place_in : Rectangle → Cell → ℕ
place_in area cell = (cell.y - area.top) * area.width + (cell.x - area.left)

-- first and last columns and rows that are in order and below the limit on sides
pub record AreEdges (left right top bottom : ℕ) : Type 0 where
  pub columns : left ≤ right
  pub rows : top ≤ bottom
  pub right_limit : right < MAX_SIDE
  pub bottom_limit : bottom < MAX_SIDE

-- the cell lies in these columns and rows, the last ones included
pub record IsBetween (left right top bottom : ℕ) (cell : Cell) : Type 0 where
  pub from_left : left ≤ cell.x
  pub to_right : cell.x ≤ right
  pub from_top : top ≤ cell.y
  pub to_bottom : cell.y ≤ bottom
