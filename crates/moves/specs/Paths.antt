-- Paths, their costs, best paths and least costs. These cover all paths, however they are found. (MovingAI scenario
-- format page: straight steps of cost 1, diagonal steps of cost √2.)
use Rattle.std.specs.Prelude.{◌≡◌, not, List, [], ◌∷◌, Option, MatchOption, count_by}
use Rattle.root_cost.specs.declared.Cost.{Cost}
use Rattle.root_cost.specs.Costs.{IsAtMost}
use Rattle.moves.specs.declared.Cell.{Cell}
use Rattle.moves.specs.declared.Move.{Move}
use Rattle.moves.specs.Maps.{Map, IsPassable}
use Rattle.moves.specs.Moves.{is_diagonal, IsLegal}

-- starting at a cell, each next cell is reached by a legal move
abbrev pub GoesOn : Map → Cell → List Cell → Type 0
GoesOn map from [] = Unit {0}
GoesOn map from (next ∷ rest) = ((move : Move) × IsLegal map from move next) × GoesOn map next rest

-- a path: a non-empty list of passable cells, each next one reached by a legal move
abbrev pub IsPath : Map → List Cell → Type 0
IsPath map [] = ⊥
IsPath map (first ∷ rest) = IsPassable map first × GoesOn map first rest

-- a path by its moves: these moves, each legal where it is made, lead from a passable cell to another
abbrev pub Leads : Map → Cell → List Move → Cell → Type 0
Leads map from [] to = IsPassable map from × (from ≡ to)
Leads map from (move ∷ moves) to = (next : Cell) × IsLegal map from move next × Leads map next moves to

-- the cost of a path: the number of its straight moves and of its diagonal moves
abbrev pub cost_of : List Move → Cost
cost_of moves = record {
  straight = count_by (λ move. not (is_diagonal move)) moves;
  diagonal = count_by is_diagonal moves;
}

-- a best path: no path with the same ends costs less
pub record IsBest (map : Map) (from : Cell) (moves : List Move) (to : Cell) : Type 0 where
  pub leads : Leads map from moves to
  pub least : (others : List Move) → Leads map from others to → IsAtMost (cost_of moves) (cost_of others)

-- some path leads from one cell to the other
abbrev pub Reaches : Map → Cell → Cell → Type 0
Reaches map from to = (moves : List Move) × Leads map from moves to

-- the least cost: that of a best path, and none if no path exists
abbrev pub IsLeastCost : Map → Cell → Cell → Option Cost → Type 0
IsLeastCost map from to cost =
    MatchOption cost (Reaches map from to → ⊥)
    (λ least. (moves : List Move) × IsBest map from moves to × (cost_of moves ≡ least))
