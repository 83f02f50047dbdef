-- Near rows of a component while its tiles are solved, whosever they are.
use Rattle.std.specs.Prelude.{◌≡◌, ◌≢◌, ◌⊎◌, ℕ, ◌<◌, ◌≤◌, List, [], length, slice_index, slice_set, take}
use Rattle.run_pack.specs.declared.Run.{Run}
use Rattle.run_pack.specs.declared.TheConstants.{MAX_PLACES}
use Rattle.moves.specs.declared.Cell.{Cell}
use Rattle.moves.specs.declared.TheConstants.{MAX_PASSABLE}
use Rattle.moves.specs.Maps.{Map}
use Rattle.moves.specs.FirstSetLists.{cell_of, AreFirstSets}
use Rattle.lane_rows.specs.Tiles.{Tile}
use Rattle.lane_rows.specs.Packed.{row_of, sets_in, words_in}
use Rattle.row_store.specs.Rows.{row_at}
use Rattle.row_store.specs.Pools.{AreMerged}
use Rattle.build_pool.specs.Places.{AreComponent}
use Rattle.near_rows.specs.NearRows.{Nearby, IsNearRadius, IsNearRow}

-- the radius and the row of the cell at a place, on each map of which the cells are a component
pub record IsNearOver (cells : List Cell) (place radius : ℕ) (row : List Run) : Type 0 where
  pub reaches : (map : Map) → AreComponent map cells → IsNearRadius map cells (cell_of cells place) radius
  pub keeps : (map : Map) → AreComponent map cells → IsNearRow map cells (cell_of cells place) radius row

-- at each place the row is blank, or radius and row are those of the cell there
pub record AreSomeNear (cells : List Cell) (nearby : Nearby) : Type 0 where
  pub radii : length nearby.radii ≡ length cells
  pub rows : length nearby.rows ≡ length cells
  pub each : (place : ℕ) → place < length cells
      → (row_at nearby.rows place ≡ []) ⊎ IsNearOver cells place (slice_index nearby.radii place) (row_at nearby.rows place)

-- the radius and the row are put at that place, and the others are as before
pub record PutsRow (old new : Nearby) (place radius : ℕ) (row : List Run) : Type 0 where
  pub radii : new.radii ≡ slice_set old.radii place radius
  pub rows : new.rows ≡ slice_set old.rows place row

-- radius and row at each place are as before, or those of the other where there was no row
pub record AreBothMerged (old other new : Nearby) : Type 0 where
  pub rows : AreMerged old.rows other.rows new.rows
  pub radii : length new.radii ≡ length old.radii
  pub kept : (place : ℕ) → row_at old.rows place ≢ [] → slice_index new.radii place ≡ slice_index old.radii place
  pub taken : (place : ℕ) → place < length old.radii → row_at old.rows place ≡ [] → slice_index new.radii place ≡ slice_index other.radii place

-- the sets of each lane are the first sets from its source among these cells, as far as they are bytes
pub record HaveFirstSets (cells : List Cell) (tile : Tile) : Type 0 where
  pub board : Map
  pub part : AreComponent board cells
  pub few : length cells ≤ MAX_PASSABLE
  pub some : 0 < length cells
  pub size : length (take tile.count tile.sets) ≡ length cells
  pub inside : (lane : ℕ) → lane < 16 → slice_index tile.sources lane < length cells
  pub first : (lane : ℕ) (map : Map) → lane < 16 → AreComponent map cells
      → ((place : ℕ) → slice_index (sets_in (take tile.count tile.sets) lane) place < 256)
      → AreFirstSets map (cell_of cells (slice_index tile.sources lane)) cells (sets_in (take tile.count tile.sets) lane)

-- in each lane the radius and the words of the near row of its source
pub record HaveNearRows (cells : List Cell) (sources radii : List ℕ) (words : List (List ℕ)) : Type 0 where
  pub inside : (lane : ℕ) → lane < 16 → slice_index sources lane < length cells
  pub few : (lane : ℕ) → lane < 16 → length (words_in words lane) ≤ MAX_PLACES
  pub each : (lane : ℕ) → lane < 16 → IsNearOver cells (slice_index sources lane) (slice_index radii lane) (row_of (words_in words lane))
