-- The legal moves of each cell of a map as bits: bit i for the move with number i.
use Rattle.std.specs.Prelude.{◌≡◌, ℕ, ◌*◌, ◌<◌, ◌≤◌, ◌↔◌, List, length, slice_index, IsBitSet}
use Rattle.moves.specs.declared.Cell.{Cell}
use Rattle.moves.specs.declared.Move.{Move}
use Rattle.moves.specs.declared.Move.TheVariants.{N, NE, E, SE, S, SW, W, NW}
use Rattle.moves.specs.Maps.{Map, IsInside, IsLike, place_of}
use Rattle.moves.specs.Moves.{number_of, IsTarget, HasLegal}

-- the mask has exactly the moves that are legal from the cell
abbrev pub IsMoveMask : Map → Cell → ℕ → Type 0
IsMoveMask map cell mask = (move : Move) → (IsBitSet mask (number_of move) ↔ HasLegal map cell move)

-- a mask for each cell, row by row
pub record AreMoveMasks (map : Map) (masks : List ℕ) : Type 0 where
  pub whole : length masks ≡ map.width * map.height
  pub each : (cell : Cell) → IsInside map cell → IsMoveMask map cell (slice_index masks (place_of map.width cell))

-- the move leads to a passable cell of the same class
abbrev pub HasFree : Map → Cell → Move → Type 0
HasFree map from move = (to : Cell) × IsTarget from move to × IsLike map from to

-- the mask has exactly the moves that lead to passable cells of the same class
abbrev pub IsFreeMask : Map → Cell → ℕ → Type 0
IsFreeMask map cell mask = (move : Move) → (IsBitSet mask (number_of move) ↔ HasFree map cell move)

-- The legal moves of a passable cell, from its mask of moves to passable cells of the same class: a straight move is
-- legal if it is in the mask, and a diagonal one if it and both straight moves beside it are.
abbrev pub IsLegalAmong : ℕ → Move → Type 0
IsLegalAmong mask N = IsBitSet mask 0
IsLegalAmong mask NE = IsBitSet mask 1 × IsBitSet mask 0 × IsBitSet mask 2
IsLegalAmong mask E = IsBitSet mask 2
IsLegalAmong mask SE = IsBitSet mask 3 × IsBitSet mask 2 × IsBitSet mask 4
IsLegalAmong mask S = IsBitSet mask 4
IsLegalAmong mask SW = IsBitSet mask 5 × IsBitSet mask 4 × IsBitSet mask 6
IsLegalAmong mask W = IsBitSet mask 6
IsLegalAmong mask NW = IsBitSet mask 7 × IsBitSet mask 6 × IsBitSet mask 0

-- the cell lies in these columns and rows, the last ones excluded
pub record IsWithin (left right top bottom : ℕ) (cell : Cell) : Type 0 where
  pub from_left : left ≤ cell.x
  pub to_right : cell.x < right
  pub from_top : top ≤ cell.y
  pub to_bottom : cell.y < bottom

-- the masks of the cells in these columns and rows are written, and no others
pub record WritesMasks (map : Map) (left right top bottom : ℕ) (old new : List ℕ) : Type 0 where
  pub whole : length new ≡ length old
  pub within : (cell : Cell) → IsWithin left right top bottom cell
      → IsMoveMask map cell (slice_index new (place_of map.width cell))
  pub beyond : (cell : Cell) → IsInside map cell → (IsWithin left right top bottom cell → ⊥)
      → slice_index new (place_of map.width cell) ≡ slice_index old (place_of map.width cell)
