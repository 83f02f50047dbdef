-- The paths of a map depend only on its passable cells and their classes.
use Rattle.std.specs.Prelude.{◌↔◌, List, Option}
use Rattle.root_cost.specs.declared.Cost.{Cost}
use Rattle.moves.specs.declared.Cell.{Cell}
use Rattle.moves.specs.declared.Move.{Move}
use Rattle.moves.specs.Maps.{Map, IsPassable, IsLike}
use Rattle.moves.specs.Moves.{IsLegal}
use Rattle.moves.specs.Paths.{Leads, IsBest, IsLeastCost}
use Rattle.moves.specs.FirstSets.{IsFirstMove}

-- both maps have the same passable cells, and the same pairs of cells are of one class, whatever the maps' sides are
-- and whichever class that is
pub record HaveSameClasses (a b : Map) : Type 0 where
  pub passable : (cell : Cell) → IsPassable a cell ↔ IsPassable b cell
  pub alike : (cell other : Cell) → IsPassable a cell → IsLike a cell other ↔ IsLike b cell other

-- both maps have the same legal moves, paths, best paths, least costs and first moves
pub record HaveSamePaths (a b : Map) : Type 0 where
  pub moves : (from : Cell) (move : Move) (to : Cell) → IsLegal a from move to ↔ IsLegal b from move to
  pub paths : (from : Cell) (moves : List Move) (to : Cell) → Leads a from moves to ↔ Leads b from moves to
  pub best : (from : Cell) (moves : List Move) (to : Cell) → IsBest a from moves to ↔ IsBest b from moves to
  pub costs : (from to : Cell) (cost : Option Cost) → IsLeastCost a from to cost ↔ IsLeastCost b from to cost
  pub first : (from to : Cell) (move : Move) → IsFirstMove a from to move ↔ IsFirstMove b from to move

-- maps with the same passable cells in the same classes have the same paths
abbrev pub ClassesDecidePaths : Type 0
ClassesDecidePaths = (a b : Map) → HaveSameClasses a b → HaveSamePaths a b
