-- The neighbours of the cells of a component, by their places in the list of cells. Inside the crate.
use Rattle.std.specs.Prelude.{◌≡◌, ℕ, ◌<◌, ◌⊎◌, IsTrue, List, [], length, slice_index, slice_index_or, Contains}
use Rattle.moves.specs.declared.Cell.{Cell}
use Rattle.moves.specs.declared.Move.{Move}
use Rattle.moves.specs.FirstSetLists.{cell_of}
use Rattle.moves.specs.Moves.{number_of, is_diagonal, IsTarget, corner}
use Rattle.row_store.specs.Layout.{ArePlaces}
use Rattle.row_check.specs.declared.near.Places.{Places}

-- the move is legal where just these cells are passable
pub record IsStep (cells : List Cell) (from : Cell) (move : Move) (to : Cell) : Type 0 where
  pub target : IsTarget from move to
  pub leaves : Contains cells from
  pub enters : Contains cells to
  pub corners : IsTrue (is_diagonal move) → Contains cells (corner from to) × Contains cells (corner to from)

-- the place of the cell where the move leads, or the number of cells where it is not legal
pub record IsEdge (cells : List Cell) (from : Cell) (move : Move) (to : ℕ) : Type 0 where
  pub legal : (target : Cell) → IsStep cells from move target → (to < length cells) × (cell_of cells to ≡ target)
  pub only : (to ≡ length cells) ⊎ ((to < length cells) × IsStep cells from move (cell_of cells to))

-- where the eight moves from a place lead, by their numbers
abbrev pub edges_of : List (List ℕ) → ℕ → List ℕ
edges_of near place = slice_index_or near place []

-- where the move with that number leads
abbrev pub end_of : List ℕ → Move → ℕ
end_of edges move = slice_index edges (number_of move)

-- the neighbours of the first `upto` cells
pub record AreNear (cells : List Cell) (near : List (List ℕ)) (upto : ℕ) : Type 0 where
  pub whole : length near ≡ upto
  pub each : (place : ℕ) → place < upto → (move : Move)
      → IsEdge cells (cell_of cells place) move (end_of (edges_of near place) move)

-- the places of all cells are known, over the rectangle that has them
pub record KnowPlaces (known : Places) (cells : List Cell) : Type 0 where
  pub places : ArePlaces cells known.bounds known.places.items
  pub count : known.count ≡ length cells
