-- The rows of a component: from each of its cells the first moves to all of them, packed into runs.
-- (Botea 2011: a table of first moves. Strasser, Harabor and Botea 2014: a row of it packed into runs.)
use Rattle.std.specs.Prelude.{◌≡◌, ◌↔◌, ℕ, ◌<◌, List, [], length, slice_index_or, Contains, IsPermutation}
use Rattle.run_pack.specs.declared.Run.{Run}
use Rattle.run_pack.specs.Runs.{IsTight}
use Rattle.moves.specs.declared.Cell.{Cell}
use Rattle.moves.specs.Maps.{Map}
use Rattle.moves.specs.Components.{IsComponent}
use Rattle.moves.specs.ComponentLaws.{HasJust}
use Rattle.moves.specs.FirstSetLists.{cell_of, AreFirstSets}

-- the row at a place of a list of rows
abbrev pub row_at : List (List Run) → ℕ → List Run
row_at rows place = slice_index_or rows place []

-- the row of a source: the tight row of its first sets to the cells, in their order
pub record IsRowFrom (map : Map) (cells : List Cell) (from : Cell) (row : List Run) : Type 0 where
  pub sets : List ℕ
  pub first : AreFirstSets map from cells sets
  pub tight : IsTight row sets

-- The rows of cells, on the map with exactly these passable cells: a row for each source cell, in their order.
-- For example, the cells of `...` have the rows (0,E) and (0,W),(2,E) and (0,W).
pub record AreRows (cells : List Cell) (rows : List (List Run)) : Type 0 where
  pub map : Map
  pub just : HasJust map cells
  pub whole : length rows ≡ length cells
  pub each : (place : ℕ) → place < length cells → IsRowFrom map cells (cell_of cells place) (row_at rows place)

-- cells in a given order have only one list of rows
abbrev pub RowsAreUnique : Type 0
RowsAreUnique = (cells : List Cell) (a b : List (List Run)) → AreRows cells a → AreRows cells b → a ≡ b

-- the row of a cell of a component is the same over the whole map and over the component's cells alone
abbrev pub ComponentsKeepEachRow : Type 0
ComponentsKeepEachRow =
    (map : Map) (component cells : List Cell) (part : Map) → IsComponent map component → IsPermutation cells component → HasJust part cells
    → (from : Cell) (row : List Run) → Contains cells from → IsRowFrom part cells from row ↔ IsRowFrom map cells from row

-- the rows of a component's cells are the rows of these cells over the whole map
abbrev pub ComponentsKeepRows : Type 0
ComponentsKeepRows =
    (map : Map) (component cells : List Cell) (rows : List (List Run)) → IsComponent map component → IsPermutation cells component
    → AreRows cells rows
    → (place : ℕ) → place < length cells → IsRowFrom map cells (cell_of cells place) (row_at rows place)
