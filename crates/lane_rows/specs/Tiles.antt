-- A tile: searches from sixteen sources, one in each lane.
use Rattle.std.specs.Prelude.{◌≡◌, ◌≢◌, ℕ, ◌+◌, ◌<◌, ◌≤◌, Bool, true, false, List, length, slice_index, slice_index_or, All, Contains}
use Rattle.run_pack.specs.declared.TheConstants.{MAX_PLACES}
use Rattle.lane_rows.specs.Equations.{lane_of}
use Rattle.lane_rows.specs.Visits.{AreSolved}

-- how many places there are, the source of each lane, the keys and sets of each place in all lanes, and the words of the
-- rows that were packed
pub record Tile : Type 0 where
  pub count : ℕ
  pub sources : List ℕ
  pub keys : List (List ℕ)
  pub sets : List (List ℕ)
  pub words : List (List ℕ)

-- in each lane all places meet their equations
pub record IsSolved (near : List (List ℕ)) (tile : Tile) : Type 0 where
  pub places : length near ≡ tile.count
  pub lanes : (lane : ℕ) → lane < 16
      → AreSolved near (slice_index tile.sources lane) (lane_of tile.keys lane) (lane_of tile.sets lane)

-- the places that are wanted before, each once and no longer wanted; of the others nothing has changed
pub record AreTaken (old new : List Bool) (taken : List ℕ) : Type 0 where
  pub wanted : All (λ place. slice_index_or old place false ≡ true) taken
  pub done : All (λ place. slice_index_or new place false ≡ false) taken
  pub others : (place : ℕ) → (Contains taken place → ⊥)
      → slice_index_or new place false ≡ slice_index_or old place false

-- the sets of one lane, with all moves at its source
pub record IsRowOf (tile : Tile) (lane : ℕ) (row : List ℕ) : Type 0 where
  pub whole : length row ≡ tile.count
  pub source : slice_index row (slice_index tile.sources lane) ≡ 255
  pub others : (place : ℕ) → place < tile.count → place ≢ slice_index tile.sources lane
      → slice_index row place ≡ lane_of tile.sets lane place

-- a row for each place and one behind the last, of keys, of sets, of who waits, and of who was met, room for as many classes'
-- codes, and each source has a row
pub record HasRoom (count : ℕ) (sources : List ℕ) (keys sets : List (List ℕ)) (waits : List ℕ) (met : List Bool) (draft : ℕ) : Type 0 where
  pub few : count ≤ MAX_PLACES
  pub key_rows : length keys ≡ count + 1
  pub set_rows : length sets ≡ count + 1
  pub wait_rows : length waits ≡ count + 1
  pub met_rows : length met ≡ count + 1
  pub draft_rows : draft ≡ count
  pub inside : All (λ source. source < length met) sources
