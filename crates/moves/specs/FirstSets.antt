-- First moves of best paths. Any of them may be stored in a path database.
-- (Botea 2011; Strasser, Harabor and Botea 2014)
use Rattle.std.specs.Prelude.{◌≡◌, ◌≢◌, ◌⊎◌, ◌↔◌, List, ◌∷◌, Some}
use Rattle.root_cost.specs.declared.Cost.{Cost}
use Rattle.moves.specs.declared.Cell.{Cell}
use Rattle.moves.specs.declared.Move.{Move}
use Rattle.moves.specs.Maps.{Map, IsPassable}
use Rattle.moves.specs.Moves.{IsLegal}
use Rattle.moves.specs.Paths.{IsBest, Reaches, IsLeastCost}
use Rattle.moves.specs.CostTables.{after_step}

-- The move is in the first set of two cells: it begins some best path from one to the other. If both are the same
-- passable cell, every move is.
abbrev pub IsFirstMove : Map → Cell → Cell → Move → Type 0
IsFirstMove map from to move =
    ((from ≡ to) × IsPassable map from) ⊎ ((rest : List Move) × IsBest map from (move ∷ rest) to)

-- a best path of that cost to `to` ends with the move from `before`: the move is legal there, and that cost is the cost
-- of a best path to `before` plus the move's
pub record ComesBy (map : Map) (from before : Cell) (last : Move) (to : Cell) (cost : Cost) : Type 0 where
  pub legal : IsLegal map before last to
  pub least : Cost
  pub is_least : IsLeastCost map from before (Some least)
  pub same : cost ≡ after_step least last

-- The local law: the first moves of best paths to a cell are those of the best paths to the cells before it and, if the
-- cell before is the source itself, the last move.
abbrev pub FirstMovesAreLocal : Type 0
FirstMovesAreLocal =
    (map : Map) (source to : Cell) (cost : Cost) (move : Move) → source ≢ to → IsLeastCost map source to (Some cost)
    → IsFirstMove map source to move
    ↔ ((before : Cell) × (last : Move) × ComesBy map source before last to cost
    × (((before ≡ source) × (move ≡ last)) ⊎ ((before ≢ source) × IsFirstMove map source before move)))

-- a first set has a move exactly when a path exists
abbrev pub FirstMovesExist : Type 0
FirstMovesExist =
    (map : Map) (from to : Cell) → Reaches map from to ↔ ((move : Move) × IsFirstMove map from to move)
