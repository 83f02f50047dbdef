-- Near sources in the lanes of vectors.
use Rattle.std.specs.Prelude.{ℕ, List, slice_index}
use Rattle.moves.specs.declared.Cell.{Cell}

-- the source of a lane, by the columns and the rows of all
abbrev pub source_in : List ℕ → List ℕ → ℕ → Cell
source_in columns rows lane = record { x = slice_index columns lane; y = slice_index rows lane }
