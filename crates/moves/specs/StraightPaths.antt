-- Paths of straight moves. Since no corner is cut, they reach everything that any path reaches.
use Rattle.std.specs.Prelude.{◌≡◌, ◌↔◌, IsTrue, IsFalse, List, [], ◌∷◌, All, Contains}
use Rattle.moves.specs.declared.Cell.{Cell}
use Rattle.moves.specs.declared.Move.{Move}
use Rattle.moves.specs.Maps.{Map}
use Rattle.moves.specs.Moves.{is_diagonal, IsTarget, IsLegal}
use Rattle.moves.specs.Paths.{Leads, Reaches}

-- some path of straight moves leads from one cell to the other
abbrev pub ReachesStraight : Map → Cell → Cell → Type 0
ReachesStraight map from to =
    (moves : List Move) × Leads map from moves to × All (λ move. IsFalse (is_diagonal move)) moves

-- these straight moves lead from one cell to the other, each to a cell of the list
abbrev pub GoesThrough : List Cell → Cell → List Move → Cell → Type 0
GoesThrough cells from [] to = from ≡ to
GoesThrough cells from (move ∷ moves) to =
    (next : Cell) × IsTarget from move next × IsFalse (is_diagonal move) × Contains cells next
    × GoesThrough cells next moves to

-- the cells are connected by straight moves among themselves
pub record IsConnected (cells : List Cell) : Type 0 where
  pub joined : (from to : Cell) → Contains cells from → Contains cells to
      → (moves : List Move) × GoesThrough cells from moves to

-- each legal diagonal move can be replaced by two straight moves, legal one after the other
abbrev pub DiagonalsAreReplaceable : Type 0
DiagonalsAreReplaceable =
    (map : Map) (from : Cell) (move : Move) (to : Cell) → IsLegal map from move to → IsTrue (is_diagonal move)
    → (first second : Move) × IsFalse (is_diagonal first) × IsFalse (is_diagonal second)
    × Leads map from (first ∷ second ∷ []) to

-- a path reaches a cell exactly when straight moves alone reach it
abbrev pub StraightMovesReachAll : Type 0
StraightMovesReachAll = (map : Map) (from to : Cell) → Reaches map from to ↔ ReachesStraight map from to
