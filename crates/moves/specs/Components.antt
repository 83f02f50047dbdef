-- Connected components of a map.
use Rattle.std.specs.Prelude.{◌<◌, ◌↔◌, List, length, slice_index_or, All, AllPairs, Any, Contains}
use Rattle.moves.specs.declared.Cell.{Cell}
use Rattle.moves.specs.Maps.{Map, IsPassable, ComesBefore}
use Rattle.moves.specs.Paths.{Reaches}

-- a component: exactly the cells that a path reaches from any of its cells, in row-major order
pub record IsComponent (map : Map) (cells : List Cell) : Type 0 where
  pub some : 0 < length cells
  pub passable : All (IsPassable map) cells
  pub whole : (from to : Cell) → Contains cells from → (Contains cells to ↔ Reaches map from to)
  pub in_order : AllPairs ComesBefore cells

-- the first cell of a list
abbrev pub first_of : List Cell → Cell
first_of cells = slice_index_or cells 0 (record { x = 0; y = 0 })

-- the components of a map, each once, in the row-major order of their least cells
pub record IsComponentList (map : Map) (components : List (List Cell)) : Type 0 where
  pub each : All (IsComponent map) components
  pub every_cell : (cell : Cell) → IsPassable map cell → Any (λ cells. Contains cells cell) components
  pub in_order : AllPairs (λ a b. ComesBefore (first_of a) (first_of b)) components
