-- A table of costs that itself shows its costs to be the least.
use Rattle.std.specs.Prelude.{◌≡◌, ◌≢◌, Option, Some}
use Rattle.root_cost.specs.declared.Cost.{Cost}
use Rattle.root_cost.specs.Costs.{IsAtMost, no_cost, plus_step}
use Rattle.moves.specs.declared.Cell.{Cell}
use Rattle.moves.specs.declared.Move.{Move}
use Rattle.moves.specs.Maps.{Map, IsPassable}
use Rattle.moves.specs.Moves.{is_diagonal, IsLegal}
use Rattle.moves.specs.Paths.{IsLeastCost}

-- the cost of a path after one more move
abbrev pub after_step : Cost → Move → Cost
after_step cost move = plus_step cost (is_diagonal move)

-- The cells that have a cost are closed under legal moves, no move leads to a cell more cheaply than its cost says, and
-- each cost but the source's is attained by a move from a cell before it.
pub record IsCostTable (map : Map) (source : Cell) (costs : Cell → Option Cost) : Type 0 where
  pub start : costs source ≡ Some no_cost
  pub no_shorter : (from : Cell) (move : Move) (to : Cell) (cost : Cost)
      → costs from ≡ Some cost → IsLegal map from move to
      → (next : Cost) × (costs to ≡ Some next) × IsAtMost next (after_step cost move)
  pub attained : (to : Cell) (cost : Cost) → costs to ≡ Some cost → to ≢ source
      → (from : Cell) × (move : Move) × (before : Cost)
      × (costs from ≡ Some before) × IsLegal map from move to × (cost ≡ after_step before move)

-- each cost in a cost table is the least, and no path reaches a cell without one
abbrev pub CostTablesAreLeast : Type 0
CostTablesAreLeast =
    (map : Map) (source : Cell) (costs : Cell → Option Cost) → IsPassable map source → IsCostTable map source costs
    → (cell : Cell) → IsLeastCost map source cell (costs cell)
