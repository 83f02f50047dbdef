-- What a component determines about moves and best paths: they depend on its cells alone.
use Rattle.std.specs.Prelude.{◌≡◌, ◌↔◌, ◌*◌, List, length, Option, AllPairs, Contains}
use Rattle.root_cost.specs.declared.Cost.{Cost}
use Rattle.moves.specs.declared.Cell.{Cell}
use Rattle.moves.specs.declared.Move.{Move}
use Rattle.moves.specs.Maps.{Map, IsWithinLimits, IsPassable, IsLike, ComesBefore, passable_cells}
use Rattle.moves.specs.Moves.{IsLegal}
use Rattle.moves.specs.Paths.{IsBest, IsLeastCost}
use Rattle.moves.specs.FirstSets.{IsFirstMove}
use Rattle.moves.specs.Components.{IsComponent}
use Rattle.moves.specs.StraightPaths.{IsConnected}

-- the map's passable cells are exactly these, all of one class, whatever its sides are
pub record HasJust (map : Map) (cells : List Cell) : Type 0 where
  pub just_these : (cell : Cell) → IsPassable map cell ↔ Contains cells cell
  pub one_class : (cell other : Cell) → Contains cells cell → Contains cells other → IsLike map cell other

-- the cells of a component are all land or all water
abbrev pub ComponentsAreOfOneClass : Type 0
ComponentsAreOfOneClass =
    (map : Map) (cells : List Cell) → IsComponent map cells
    → (cell other : Cell) → Contains cells cell → Contains cells other → IsLike map cell other

-- which moves are legal inside a component depends on its cells alone
abbrev pub ComponentsKeepMoves : Type 0
ComponentsKeepMoves =
    (map : Map) (cells : List Cell) (part : Map) → IsComponent map cells → HasJust part cells
    → (from : Cell) (move : Move) (to : Cell) → Contains cells from
    → IsLegal part from move to ↔ IsLegal map from move to

-- which paths from a cell of a component are best depends on its cells alone
abbrev pub ComponentsKeepBestPaths : Type 0
ComponentsKeepBestPaths =
    (map : Map) (cells : List Cell) (part : Map) → IsComponent map cells → HasJust part cells
    → (from : Cell) (moves : List Move) (to : Cell) → Contains cells from
    → IsBest part from moves to ↔ IsBest map from moves to

-- what a best path from a cell of a component costs depends on its cells alone
abbrev pub ComponentsKeepCosts : Type 0
ComponentsKeepCosts =
    (map : Map) (cells : List Cell) (part : Map) → IsComponent map cells → HasJust part cells
    → (from to : Cell) (cost : Option Cost) → Contains cells from
    → IsLeastCost part from to cost ↔ IsLeastCost map from to cost

-- the first sets from a cell of a component depend on its cells alone
abbrev pub ComponentsKeepFirstSets : Type 0
ComponentsKeepFirstSets =
    (map : Map) (cells : List Cell) (part : Map) → IsComponent map cells → HasJust part cells
    → (from to : Cell) (move : Move) → Contains cells from
    → IsFirstMove part from to move ↔ IsFirstMove map from to move

-- the cells of a component are a component of the map that has these cells alone
abbrev pub ComponentsStayComponents : Type 0
ComponentsStayComponents =
    (map : Map) (cells : List Cell) → IsComponent map cells → (part : Map) → HasJust part cells → IsComponent part cells

-- the cells of a component are connected by straight moves among themselves
abbrev pub ComponentsAreConnected : Type 0
ComponentsAreConnected = (map : Map) (cells : List Cell) → IsComponent map cells → IsConnected cells

-- the list of passable cells has exactly these, each once and in row-major order
pub record IsListed (map : Map) : Type 0 where
  pub just_these : (cell : Cell) → Contains (passable_cells map) cell ↔ IsPassable map cell
  pub in_order : AllPairs ComesBefore (passable_cells map)

-- the list is right for each map inside the limits that has a terrain for each cell
abbrev pub PassableCellsAreListed : Type 0
PassableCellsAreListed =
    (map : Map) → IsWithinLimits map.width map.height → length map.terrain ≡ map.width * map.height → IsListed map
