-- What the row of one lane of a solved tile is.
use Rattle.std.specs.Prelude.{ℕ, ◌<◌, List, slice_index, All}
use Rattle.moves.specs.declared.Cell.{Cell}
use Rattle.moves.specs.Maps.{Map}
use Rattle.moves.specs.FirstSetLists.{cell_of, AreFirstSets}
use Rattle.lane_rows.specs.Laws.{IsTableOf}
use Rattle.lane_rows.specs.Tiles.{Tile, IsSolved}

-- where all places meet their equations, the first sets from the lane's source, on each map that has just these cells
abbrev pub HasFirstSets : Tile → ℕ → List ℕ → Type 0
HasFirstSets tile lane row =
    (map : Map) (cells : List Cell) (near : List (List ℕ)) → IsTableOf map cells near → IsSolved near tile
    → AreFirstSets map (cell_of cells (slice_index tile.sources lane)) cells row

-- and none of them is empty
abbrev pub HasMoves : Tile → List ℕ → Type 0
HasMoves tile row =
    (map : Map) (cells : List Cell) (near : List (List ℕ)) → IsTableOf map cells near → IsSolved near tile
    → All (λ set. 0 < set) row
