-- What the code's box of places holds.
use Rattle.std.specs.Prelude.{◌≡◌, List, length}
use Rattle.moves.specs.declared.Cell.{Cell}
use Rattle.lane_rows.specs.declared.places.Places.{Places}
use Rattle.lane_rows.specs.Tables.{IsIndexed}

-- the places of all these cells, and the number of cells for all others
pub record KnowPlaces (known : Places) (cells : List Cell) : Type 0 where
  pub indexed : IsIndexed known.left known.top known.width known.places.items cells (length cells)
  pub none : known.none ≡ length cells
