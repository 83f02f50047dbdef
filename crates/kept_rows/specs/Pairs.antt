-- A pair of tiles, one over each list of cells, from the same cells; and what keys tell at one place.
use Rattle.std.specs.Prelude.{◌≡◌, ℕ, ◌<◌, ◌↔◌, List, length, slice_index}
use Rattle.moves.specs.declared.Cell.{Cell}
use Rattle.moves.specs.declared.Move.{Move}
use Rattle.moves.specs.MoveSets.{Has}
use Rattle.lane_rows.specs.Tables.{edges_of, end_of, AreNear, IsMutual, IsNumbered}
use Rattle.lane_rows.specs.Equations.{lane_of, offered}
use Rattle.lane_rows.specs.Tiles.{Tile, IsSolved}
use Rattle.kept_rows.specs.Gaps.{IsPart}
use Rattle.kept_rows.specs.Targets.{AreMoved}

-- a list of cells, the neighbours of each, and a tile over them
pub record Searched : Type 0 where
  pub cells : List Cell
  pub near : List (List ℕ)
  pub tile : Tile

-- these are the neighbours of the cells, and there is room for a tile
pub record CanBeSearched (side : Searched) : Type 0 where
  pub numbered : IsNumbered side.cells
  pub edges : AreNear side.cells side.near
  pub pairs : IsMutual side.near
  pub room : side.tile.count ≡ length side.cells

-- and the tile is solved
pub record IsSearched (side : Searched) : Type 0 where
  pub can : CanBeSearched side
  pub solved : IsSolved side.near side.tile

-- one list has some cells more, and both can be searched
pub record CanBePair (whole part : Searched) (gaps : List ℕ) : Type 0 where
  pub cells : IsPart whole.cells part.cells gaps
  pub over_whole : CanBeSearched whole
  pub over_part : CanBeSearched part

-- both lists are searched from the same cells, and the longer one from that of the first gap too
pub record IsPair (whole part : Searched) (gaps : List ℕ) : Type 0 where
  pub cells : IsPart whole.cells part.cells gaps
  pub over_whole : IsSearched whole
  pub over_part : IsSearched part
  pub inside : (lane : ℕ) → lane < 16 → slice_index part.tile.sources lane < length part.cells
  pub moved : AreMoved gaps part.tile.sources whole.tile.sources

-- the set of the moves that lead to a place whose key and the step make the key of this one
pub record IsFirstByKeys (near : List (List ℕ)) (keys : ℕ → ℕ) (place set : ℕ) : Type 0 where
  pub each : (move : Move) → Has set move
      ↔ ((end_of (edges_of near place) move < length near) × (keys place ≡ offered (edges_of near place) keys move))

-- such sets in all lanes
abbrev pub AreFirstByKeys : Searched → ℕ → List ℕ → Type 0
AreFirstByKeys side place sets = (lane : ℕ) → lane < 16 → IsFirstByKeys side.near (lane_of side.tile.keys lane) place (slice_index sets lane)
