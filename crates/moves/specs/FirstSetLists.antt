-- The first sets of one source to the cells of a list: the row of a path database, before it is packed.
-- (Botea 2011; Strasser, Harabor and Botea 2014)
use Rattle.std.specs.Prelude.{◌≡◌, ◌↔◌, ℕ, ◌<◌, List, length, slice_index, slice_index_or, All}
use Rattle.moves.specs.declared.Cell.{Cell}
use Rattle.moves.specs.declared.Move.{Move}
use Rattle.moves.specs.Maps.{Map}
use Rattle.moves.specs.MoveSets.{Has}
use Rattle.moves.specs.FirstSets.{IsFirstMove}

-- the cell at a place of a list
abbrev pub cell_of : List Cell → ℕ → Cell
cell_of cells place = slice_index_or cells place (record { x = 0; y = 0 })

-- one byte for each cell: the first set of the source and that cell
pub record AreFirstSets (map : Map) (from : Cell) (cells : List Cell) (sets : List ℕ) : Type 0 where
  pub whole : length sets ≡ length cells
  pub bytes : All (λ set. set < 256) sets
  pub each : (place : ℕ) → place < length cells → (move : Move)
      → Has (slice_index sets place) move ↔ IsFirstMove map from (cell_of cells place) move
