-- What stays from one cell to another where a component loses cells, or gains them: over each map that has just the
-- cells of the longer list, and each that has just those of the shorter. Cells are told by their places in the shorter
-- list.
use Rattle.std.specs.Prelude.{◌≡◌, ℕ, ◌<◌, ◌↔◌, List, [], length, slice_index, slice_index_or}
use Rattle.moves.specs.declared.Cell.{Cell}
use Rattle.moves.specs.declared.Move.{Move}
use Rattle.moves.specs.Maps.{Map}
use Rattle.moves.specs.MoveSets.{Has}
use Rattle.moves.specs.FirstSets.{IsFirstMove}
use Rattle.moves.specs.ComponentLaws.{HasJust}
use Rattle.moves.specs.FirstSetLists.{cell_of}
use Rattle.kept_sources.specs.Parts.{HaveSameFirst, HaveSameCost}
use Rattle.kept_rows.specs.Targets.{IsAmong}

-- the first set from one cell to another stays
pub record FirstStays (whole part : List Cell) (from to : ℕ) : Type 0 where
  pub over : (map other : Map) → HasJust map whole → HasJust other part → HaveSameFirst map other (cell_of part from) (cell_of part to)

-- the least cost stays
pub record CostStays (whole part : List Cell) (from to : ℕ) : Type 0 where
  pub over : (map other : Map) → HasJust map whole → HasJust other part → HaveSameCost map other (cell_of part from) (cell_of part to)

-- the first sets to all cells stay
pub record AllStay (whole part : List Cell) (from : ℕ) : Type 0 where
  pub each : (to : ℕ) → to < length part → FirstStays whole part from to

-- the moves of the set are the first moves from one cell to the other, on each map that has just these cells
pub record IsFirstSet (whole : List Cell) (from to : Cell) (set : ℕ) : Type 0 where
  pub byte : set < 256
  pub over : (map : Map) → HasJust map whole → (move : Move) → Has set move ↔ IsFirstMove map from to move

-- the first sets from a cell to those of fifteen places, and to that of the first gap in the last lane
pub record AreFirstSetsTo (whole part : List Cell) (gaps : List ℕ) (from : ℕ) (sources sets : List ℕ) : Type 0 where
  pub shared : (lane : ℕ) → lane < 15 → IsFirstSet whole (cell_of part from) (cell_of part (slice_index sources lane)) (slice_index sets lane)
  pub last : IsFirstSet whole (cell_of part from) (cell_of whole (slice_index gaps 0)) (slice_index sets 15)

-- such sets from each cell but those of the fifteen places
pub record AreFirstSetsOfAll (whole part : List Cell) (gaps sources : List ℕ) (sets : List (List ℕ)) : Type 0 where
  pub each : (from : ℕ) → from < length part → (IsAmong sources 15 from → ⊥)
      → AreFirstSetsTo whole part gaps from sources (slice_index_or sets from [])

-- the first sets from a cell to those of all gaps
pub record AreSetsToGaps (whole part : List Cell) (gaps : List ℕ) (from : ℕ) (sets : List ℕ) : Type 0 where
  pub each : (number : ℕ) → number < length gaps
      → IsFirstSet whole (cell_of part from) (cell_of whole (slice_index gaps number)) (slice_index sets number)

-- such sets from each cell but those of the fifteen places
pub record AreSetsToGapsOfAll (whole part : List Cell) (gaps sources : List ℕ) (sets : List (List ℕ)) : Type 0 where
  pub each : (from : ℕ) → from < length part → (IsAmong sources 15 from → ⊥) → AreSetsToGaps whole part gaps from (slice_index_or sets from [])

-- for each list of sets one that has its last set first
pub record AreLastSets (sets own : List (List ℕ)) : Type 0 where
  pub each : (place : ℕ) → slice_index (slice_index_or own place []) 0 ≡ slice_index (slice_index_or sets place []) 15
