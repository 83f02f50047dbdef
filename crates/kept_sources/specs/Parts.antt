-- Two maps of which the one has some of the other's cells: what is left where cells are taken out together.
use Rattle.std.specs.Prelude.{◌↔◌, List, [], ◌∷◌, All, Contains, Option}
use Rattle.root_cost.specs.declared.Cost.{Cost}
use Rattle.moves.specs.declared.Cell.{Cell}
use Rattle.moves.specs.declared.Move.{Move}
use Rattle.moves.specs.declared.Terrain.TheVariants.{Blocked}
use Rattle.moves.specs.Maps.{Map, IsInside, IsPassable, IsLike, with_terrain}
use Rattle.moves.specs.Paths.{IsLeastCost}
use Rattle.moves.specs.FirstSets.{IsFirstMove}

-- the map with that cell blocked
abbrev pub without : Map → Cell → Map
without map cell = with_terrain map cell Blocked

-- the map with those cells blocked, one after the other
abbrev pub without_all : Map → List Cell → Map
without_all map [] = map
without_all map (cell ∷ cells) = without_all (without map cell) cells

-- the other map is a part of the map: each of its cells is one of the map's, and two of its cells are of one class
-- where they are so on the map, whatever its sides are
pub record IsPart (map part : Map) : Type 0 where
  pub passable : (cell : Cell) → IsPassable part cell → IsPassable map cell
  pub alike : (cell other : Cell) → IsPassable part cell → IsPassable part other
      → IsLike map cell other ↔ IsLike part cell other

-- the cell is one of the map's that the part lacks
pub record IsTakenOut (map part : Map) (cell : Cell) : Type 0 where
  pub was : IsPassable map cell
  pub gone : IsPassable part cell → ⊥

-- two maps have the same first moves from one cell to another
abbrev pub HaveSameFirst : Map → Map → Cell → Cell → Type 0
HaveSameFirst a b from to = (move : Move) → IsFirstMove a from to move ↔ IsFirstMove b from to move

-- and the same least cost
abbrev pub HaveSameCost : Map → Map → Cell → Cell → Type 0
HaveSameCost a b from to = (cost : Option Cost) → IsLeastCost a from to cost ↔ IsLeastCost b from to cost

-- the other map is the map without just the passable cells of the list
pub record IsWithoutThese (map : Map) (cells : List Cell) (part : Map) : Type 0 where
  pub is_part : IsPart map part
  pub taken : (cell : Cell) → IsTakenOut map part cell ↔ (IsPassable map cell × Contains cells cell)

-- cells inside that are blocked one after the other are taken out together
abbrev pub ListsAreTakenOut : Type 0
ListsAreTakenOut =
    (map : Map) (cells : List Cell) → All (IsInside map) cells → IsWithoutThese map cells (without_all map cells)
