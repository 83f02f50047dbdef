-- The neighbours of the cells of a component, by places: a cell's place is its index in the list of cells.
use Rattle.std.specs.Prelude.{◌≡◌, ◌≢◌, ℕ, ◌+◌, ◌-◌, ◌*◌, ◌<◌, ◌≤◌, ◌⊎◌, IsTrue, List, [], length, slice_index, slice_index_or, All, AllPairs, Contains}
use Rattle.moves.specs.declared.TheConstants.{MAX_PASSABLE}
use Rattle.moves.specs.declared.Cell.{Cell}
use Rattle.moves.specs.declared.Move.{Move}
use Rattle.moves.specs.FirstSetLists.{cell_of}
use Rattle.moves.specs.Moves.{number_of, is_diagonal, opposite, IsTarget, corner}

-- the eight neighbours of a place, by the numbers of the moves
abbrev pub edges_of : List (List ℕ) → ℕ → List ℕ
edges_of near place = slice_index_or near place []

-- where a move leads, among the neighbours of a place
abbrev pub end_of : List ℕ → Move → ℕ
end_of edges move = slice_index edges (number_of move)

-- Each neighbour is a place, or the number of places, which stands for none. No place is its own neighbour, and the move
-- back leads back.
pub record IsMutual (near : List (List ℕ)) : Type 0 where
  pub within : All (λ edges. All (λ to. to ≤ length near) edges) near
  pub apart : (place : ℕ) (move : Move) → place < length near → end_of (edges_of near place) move ≢ place
  pub back : (place : ℕ) (move : Move) → place < length near → end_of (edges_of near place) move < length near
      → end_of (edges_of near (end_of (edges_of near place) move)) (opposite move) ≡ place

-- the move is legal where just these cells are passable
pub record IsStep (cells : List Cell) (from : Cell) (move : Move) (to : Cell) : Type 0 where
  pub target : IsTarget from move to
  pub leaves : Contains cells from
  pub enters : Contains cells to
  pub corners : IsTrue (is_diagonal move) → Contains cells (corner from to) × Contains cells (corner to from)

-- the place of the cell where the move leads, or the number of cells where it is not legal
pub record IsEdge (cells : List Cell) (from : Cell) (move : Move) (to : ℕ) : Type 0 where
  pub legal : (target : Cell) → IsStep cells from move target → (to < length cells) × (cell_of cells to ≡ target)
  pub only : (to ≡ length cells) ⊎ ((to < length cells) × IsStep cells from move (cell_of cells to))

-- no cell twice, all on a map within the limits, and few enough to be numbered
pub record IsNumbered (cells : List Cell) : Type 0 where
  pub once : AllPairs (λ a b. a ≡ b → ⊥) cells
  pub columns : All (λ cell. cell.x < 4096) cells
  pub rows : All (λ cell. cell.y < 4096) cells
  pub few : length cells ≤ MAX_PASSABLE

-- the neighbours of all these cells
pub record AreNear (cells : List Cell) (near : List (List ℕ)) : Type 0 where
  pub whole : length near ≡ length cells
  pub each : (place : ℕ) (move : Move) → place < length cells
      → IsEdge cells (cell_of cells place) move (end_of (edges_of near place) move)

-- the index of a cell in a box of that corner and width, row by row
abbrev pub index_of : ℕ → ℕ → ℕ → Cell → ℕ
index_of left top width cell = (cell.y - top) * width + (cell.x - left)

-- the cell is not left of the box, above it, or right of it
pub record IsInBox (left top width : ℕ) (cell : Cell) : Type 0 where
  pub from_left : left ≤ cell.x
  pub to_right : cell.x < left + width
  pub from_top : top ≤ cell.y

-- a box with the places of the first `count` cells, and the number of all cells elsewhere
pub record IsIndexed (left top width : ℕ) (places : List ℕ) (cells : List Cell) (count : ℕ) : Type 0 where
  pub held : (place : ℕ) → place < count → IsInBox left top width (cell_of cells place)
      × (index_of left top width (cell_of cells place) < length places)
      × (slice_index places (index_of left top width (cell_of cells place)) ≡ place)
  pub only : (at : ℕ) → at < length places → (slice_index places at ≡ length cells)
      ⊎ ((slice_index places at < count) × (index_of left top width (cell_of cells (slice_index places at)) ≡ at))
