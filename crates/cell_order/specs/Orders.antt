-- Orders of the cells of a component. (Strasser, Harabor and Botea 2014: the order decides how well rows of runs pack.)
use Rattle.std.specs.Prelude.{◌≡◌, ℕ, zero, suc, ◌+◌, ◌-◌, ◌==◌, ◌<◌, Bool, true, false, ◌&&◌, not, if◌then◌else◌, List, [], ◌∷◌, ◌++◌, length, AllPairs, IsPermutation}
use Rattle.std.specs.List.{fold}
use Rattle.moves.specs.declared.Cell.{Cell}
use Rattle.moves.specs.Maps.{ComesBefore, has_cell}
use Rattle.moves.specs.Components.{first_of}
use Rattle.moves.specs.StraightPaths.{IsConnected}
use Rattle.cell_order.specs.declared.OrderKind.{OrderKind}
use Rattle.cell_order.specs.declared.OrderKind.TheVariants.{Rows, Dfs}

-- whether the cell is one of the cells and has not been seen
abbrev pub is_new : List Cell → List Cell → Cell → Bool
is_new cells seen cell = has_cell cells cell && not (has_cell seen cell)

-- the cell north of a cell, if there is one
abbrev pub north : Cell → List Cell
north cell = if cell.y == 0 then [] else record { x = cell.x; y = cell.y - 1 } ∷ []

-- the cell west of a cell, if there is one
abbrev pub west : Cell → List Cell
west cell = if cell.x == 0 then [] else record { x = cell.x - 1; y = cell.y } ∷ []

-- the cells north, east, south and west of a cell
abbrev pub cells_beside : Cell → List Cell
cells_beside cell =
    north cell ++ record { x = cell.x + 1; y = cell.y } ∷ record { x = cell.x; y = cell.y + 1 } ∷ west cell

-- The cells seen after a visit to a cell. If the cell was already seen or is not one of the cells, nothing changes.
-- Otherwise it is added to those seen, and then the cells north, east, south and west of it are visited in turn. The
-- number bounds the depth of the visits.
unfoldable pub visit : ℕ → List Cell → List Cell → Cell → List Cell
visit zero cells seen cell = seen
visit (suc depth) cells seen cell =
    if is_new cells seen cell then fold (visit depth cells) (seen ++ cell ∷ []) (cells_beside cell) else seen

-- the cells seen after a visit whose depth is bounded only by the number of cells
abbrev pub visited : List Cell → List Cell → Cell → List Cell
visited cells seen cell = visit (length cells) cells seen cell

-- the bound on depth makes no difference: visits are the recursion without it
pub record VisitsHaveNoBound : Type 0 where
  pub new : (cells seen : List Cell) (cell : Cell) → is_new cells seen cell ≡ true
      → visited cells seen cell ≡ fold (visited cells) (seen ++ cell ∷ []) (cells_beside cell)
  pub old : (cells seen : List Cell) (cell : Cell) → is_new cells seen cell ≡ false → visited cells seen cell ≡ seen

-- the cells in the given order: as they are listed, or as a depth-first search from the first of them visits them
abbrev pub ordered : OrderKind → List Cell → List Cell
ordered Rows cells = cells
ordered Dfs cells = visited cells [] (first_of cells)

-- an order of connected cells contains each of them exactly once
abbrev pub OrdersArePermutations : Type 0
OrdersArePermutations =
    (kind : OrderKind) (cells : List Cell) → 0 < length cells → AllPairs ComesBefore cells → IsConnected cells
    → IsPermutation (ordered kind cells) cells

-- the number of an order
abbrev pub kind_of : OrderKind → ℕ
kind_of Rows = 0
kind_of Dfs = 1
