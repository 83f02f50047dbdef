-- A component as it is stored: its cells in an order, and their rows.
use Rattle.std.specs.Prelude.{◌≡◌, ◌≢◌, ℕ, ◌<◌, ◌≤◌, List, ◌∷◌, length, All, AllPairs}
use Rattle.run_pack.specs.declared.Run.{Run}
use Rattle.run_pack.specs.Runs.{IsCoveringMove}
use Rattle.moves.specs.declared.Cell.{Cell}
use Rattle.moves.specs.declared.Move.{Move}
use Rattle.moves.specs.declared.TheConstants.{MAX_PASSABLE}
use Rattle.moves.specs.Maps.{Map}
use Rattle.moves.specs.Moves.{number_of}
use Rattle.moves.specs.Paths.{IsBest}
use Rattle.moves.specs.StraightPaths.{IsConnected}
use Rattle.moves.specs.ComponentLaws.{HasJust}
use Rattle.moves.specs.FirstSetLists.{cell_of}
use Rattle.moves.specs.Rectangles.{IsOnMap}
use Rattle.cell_order.specs.declared.OrderKind.{OrderKind}
use Rattle.row_store.specs.Rows.{row_at, AreRows}

-- a component: how its cells are ordered, the cells in this order, and a row for each of them
pub record Comp : Type 0 where
  pub kind : OrderKind
  pub cells : List Cell
  pub rows : List (List Run)

-- the component with these parts
abbrev pub comp_with : OrderKind → List Cell → List (List Run) → Comp
comp_with kind cells rows = record { kind = kind; cells = cells; rows = rows }

-- what each stored component is: connected cells of a map, each listed once, and their rows
pub record IsComp (comp : Comp) : Type 0 where
  pub some : 0 < length comp.cells
  pub few : length comp.cells ≤ MAX_PASSABLE
  pub on_map : All IsOnMap comp.cells
  pub once : AllPairs (λ a b. a ≢ b) comp.cells
  pub connected : IsConnected comp.cells
  pub rows : AreRows comp.cells comp.rows

-- the cell is at that place
pub record IsPlaceOf (cells : List Cell) (cell : Cell) (place : ℕ) : Type 0 where
  pub within : place < length cells
  pub there : cell_of cells place ≡ cell

-- the move of the run that covers the place `to` in the row of the cell at `from`
abbrev pub IsMoveOfRow : Comp → ℕ → ℕ → Move → Type 0
IsMoveOfRow comp from to move = IsCoveringMove (row_at comp.rows from) (length comp.cells) to (number_of move)

-- on any map with exactly these passable cells, the move begins a best path from the cell at `from` to the one at `to`
pub record BeginsBestPath (cells : List Cell) (from to : ℕ) (move : Move) : Type 0 where
  pub begins : (map : Map) → HasJust map cells → (rest : List Move) × IsBest map (cell_of cells from) (move ∷ rest) (cell_of cells to)
