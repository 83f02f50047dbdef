-- The rows of a component in pieces, each of which is built on its own.
use Rattle.std.specs.Prelude.{◌≡◌, ℕ, ◌*◌, ◌/◌, ◌<◌, ◌≤◌, ◌⊎◌, List, [], length, map, slice_index}
use Rattle.run_pack.specs.declared.Run.{Run}
use Rattle.run_pack.specs.declared.TheConstants.{MAX_PLACES}
use Rattle.run_pack.specs.Runs.{run_of_word}
use Rattle.moves.specs.declared.Cell.{Cell}
use Rattle.moves.specs.declared.TheConstants.{MAX_PASSABLE}
use Rattle.moves.specs.Maps.{Map}
use Rattle.moves.specs.ComponentLaws.{HasJust}
use Rattle.moves.specs.FirstSetLists.{cell_of, AreFirstSets}
use Rattle.row_store.specs.Rows.{row_at, IsRowFrom}
use Rattle.lane_rows.specs.Tiles.{Tile}
use Rattle.lane_rows.specs.Packed.{words_in}
use Rattle.build_pool.specs.declared.TheConstants.{MAX_WORKERS}
use Rattle.build_pool.specs.Places.{AreWithNear}

-- the place before which a piece of so many begins, among so many places: the piece's share of them, rounded down
abbrev pub cut : ℕ → ℕ → ℕ → ℕ
cut places pieces piece = piece * places / pieces

-- what it takes to build the rows of a piece: the cells with their neighbours, and the piece is one of so many
pub record CanBuild (cells : List Cell) (near : List (List ℕ)) (all number : ℕ) : Type 0 where
  pub table : AreWithNear cells near
  pub few : length cells ≤ MAX_PASSABLE
  pub pieces : all ≤ MAX_WORKERS
  pub piece : number < all

-- the first sets from the cell at a place, over each map that has just these cells
pub record AreFirstOver (cells : List Cell) (place : ℕ) (sets : List ℕ) : Type 0 where
  pub over : (map : Map) → HasJust map cells → AreFirstSets map (cell_of cells place) cells sets

-- the row from the cell at a place, over each map that has just these cells
pub record IsRowOver (cells : List Cell) (place : ℕ) (row : List Run) : Type 0 where
  pub over : (map : Map) → HasJust map cells → IsRowFrom map cells (cell_of cells place) row

-- the words of the row from the cell at a place, over each map that has just these cells
pub record AreWordsOver (cells : List Cell) (place : ℕ) (words : List ℕ) : Type 0 where
  pub few : length words ≤ MAX_PLACES
  pub row : IsRowOver cells place (map run_of_word words)

-- in each lane of the tile the words of the row from its source
abbrev pub ArePackedOver : List Cell → Tile → Type 0
ArePackedOver cells tile = (lane : ℕ) → lane < 16 → AreWordsOver cells (slice_index tile.sources lane) (words_in tile.words lane)

-- each row is blank, or that of its place
pub record ArePartly (cells : List Cell) (rows : List (List Run)) : Type 0 where
  pub each : (place : ℕ) → place < length rows → (row_at rows place ≡ []) ⊎ IsRowOver cells place (row_at rows place)

-- what one worker builds: a row for each cell, blank or that of its place
pub record AreSome (cells : List Cell) (rows : List (List Run)) : Type 0 where
  pub size : length rows ≡ length cells
  pub part : ArePartly cells rows

-- some row is blank
pub record HasBlank (rows : List (List Run)) : Type 0 where
  pub place : ℕ
  pub there : place < length rows
  pub blank : row_at rows place ≡ []

-- so many rows, each that of its place
pub record AreWhole (cells : List Cell) (count : ℕ) (rows : List (List Run)) : Type 0 where
  pub size : length rows ≡ count
  pub each : (place : ℕ) → place < count → IsRowOver cells place (row_at rows place)

-- each row is blank, or that of its place; those before a place are built
pub record AreDone (cells : List Cell) (upto : ℕ) (rows : List (List Run)) : Type 0 where
  pub part : ArePartly cells rows
  pub done : (place : ℕ) → place < upto → IsRowOver cells place (row_at rows place)
