-- Where the cells of a component lie.
use Rattle.std.specs.Prelude.{ℕ, ◌<◌, ◌≤◌, List, length, All, AllPairs, IsPermutation}
use Rattle.moves.specs.declared.Cell.{Cell}
use Rattle.moves.specs.Maps.{Map, ComesBefore, IsSearchable, IsWithinLimits}
use Rattle.moves.specs.declared.TheConstants.{MAX_PASSABLE}
use Rattle.moves.specs.Components.{IsComponent}
use Rattle.moves.specs.ComponentLaws.{HasJust}
use Rattle.moves.specs.StraightPaths.{IsConnected}
use Rattle.lane_rows.specs.Tables.{AreNear, IsMutual, IsNumbered}

-- the cell lies inside a map of these sides
pub record IsInSides (width height : ℕ) (cell : Cell) : Type 0 where
  pub column : cell.x < width
  pub row : cell.y < height

-- the cells lie on some map inside the limits
pub record LieOnMap (cells : List Cell) : Type 0 where
  pub width : ℕ
  pub height : ℕ
  pub limits : IsWithinLimits width height
  pub inside : All (IsInSides width height) cells

-- the cells are those of a component of the map, in some order
pub record AreComponent (map : Map) (cells : List Cell) : Type 0 where
  pub component : List Cell
  pub is : IsComponent map component
  pub order : IsPermutation cells component

-- the cells have all that it takes to build their rows
pub record CanBeBuilt (cells : List Cell) : Type 0 where
  pub some : 0 < length cells
  pub few : length cells ≤ MAX_PASSABLE
  pub in_order : AllPairs ComesBefore cells
  pub connected : IsConnected cells
  pub on_map : LieOnMap cells

-- the map has just the cells, which are a component of it
pub record IsBoardOf (map : Map) (cells : List Cell) : Type 0 where
  pub just : HasJust map cells
  pub component : AreComponent map cells
  pub searchable : IsSearchable map
  pub few : length cells ≤ MAX_PASSABLE

-- cells in some order, of which there is a map that has just them, and that are a component of each such map
pub record AreSources (cells : List Cell) : Type 0 where
  pub board : Map
  pub just : HasJust board cells
  pub component : (map : Map) → HasJust map cells → AreComponent map cells
  pub some : 0 < length cells
  pub few : length cells ≤ MAX_PASSABLE
  pub on_map : LieOnMap cells
  pub numbered : IsNumbered cells

-- and the table of their neighbours
pub record AreWithNear (cells : List Cell) (near : List (List ℕ)) : Type 0 where
  pub sources : AreSources cells
  pub edges : AreNear cells near
  pub pairs : IsMutual near
