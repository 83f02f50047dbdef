-- The legal moves of a cell, with the cells they lead to.
use Rattle.std.specs.Prelude.{◌≡◌, ℕ, ◌<◌, List, All, AllPairs, Contains}
use Rattle.moves.specs.declared.Cell.{Cell}
use Rattle.moves.specs.declared.Move.{Move}
use Rattle.moves.specs.Maps.{Map}
use Rattle.moves.specs.Moves.{number_of, IsLegal}

-- no move with that number is legal from the cell
abbrev pub NoneIsNumbered : Map → Cell → ℕ → Type 0
NoneIsNumbered map from number = (move : Move) (to : Cell) → number_of move ≡ number → IsLegal map from move to → ⊥

-- all legal moves from a cell, by number, each with its target
pub record AreNeighbours (map : Map) (from : Cell) (found : List (Move × Cell)) : Type 0 where
  pub legal : All (λ pair. IsLegal map from pair.0 pair.1) found
  pub every : (move : Move) (to : Cell) → IsLegal map from move to → Contains found (move, to)
  pub by_number : AllPairs (λ a b. number_of a.0 < number_of b.0) found
