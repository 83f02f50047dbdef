-- Near rows: round a cell the compass move begins best paths, and what is right so needs no run.
-- (Strasser, Harabor and Botea 2014: any optimal first move may be kept for a place, and a run reaches as far as its sets
-- have a common move.)
use Rattle.std.specs.Prelude.{◌≡◌, ◌↔◌, ℕ, ◌<◌, ◌≤◌, List, length, slice_index, All, Contains, sum_by}
use Rattle.run_pack.specs.declared.Run.{Run}
use Rattle.run_pack.specs.Runs.{Fits, IsTight}
use Rattle.moves.specs.declared.Cell.{Cell}
use Rattle.moves.specs.declared.Move.{Move}
use Rattle.moves.specs.Maps.{Map}
use Rattle.moves.specs.MoveSets.{Has}
use Rattle.moves.specs.FirstSets.{IsFirstMove}
use Rattle.moves.specs.FirstSetLists.{cell_of}
use Rattle.row_store.specs.Rows.{row_at}
use Rattle.near_rows.specs.declared.TheConstants.{MAX_RADIUS}
use Rattle.near_rows.specs.Compass.{IsCompass, IsInSquare}

-- up to that radius round the source the compass move begins a best path to each of the cells
abbrev pub IsRightWithin : Map → List Cell → Cell → ℕ → Type 0
IsRightWithin map cells source radius =
    (cell : Cell) (move : Move) → Contains cells cell → IsInSquare source radius cell → IsCompass source move cell
    → IsFirstMove map source cell move

-- the near radius of a source: the greatest such radius from 0 to 4,095
pub record IsNearRadius (map : Map) (cells : List Cell) (source : Cell) (radius : ℕ) : Type 0 where
  pub most : radius ≤ MAX_RADIUS
  pub right : IsRightWithin map cells source radius
  pub greatest : (other : ℕ) → other ≤ MAX_RADIUS → IsRightWithin map cells source other → other ≤ radius

-- the widened sets of a source: all eight moves to the cells in the square, and the first sets to the others
pub record AreWidened (map : Map) (source : Cell) (radius : ℕ) (cells : List Cell) (sets : List ℕ) : Type 0 where
  pub whole : length sets ≡ length cells
  pub bytes : All (λ set. set < 256) sets
  pub inside : (place : ℕ) → place < length cells → IsInSquare source radius (cell_of cells place) → slice_index sets place ≡ 255
  pub outside : (place : ℕ) → place < length cells → (IsInSquare source radius (cell_of cells place) → ⊥) → (move : Move)
      → Has (slice_index sets place) move ↔ IsFirstMove map source (cell_of cells place) move

-- the near row of a source: the tight row of its widened sets
pub record IsNearRow (map : Map) (cells : List Cell) (source : Cell) (radius : ℕ) (row : List Run) : Type 0 where
  pub sets : List ℕ
  pub widened : AreWidened map source radius cells sets
  pub tight : IsTight row sets

-- what is near in a component: a radius and a row for each of its cells
pub record Nearby : Type 0 where
  pub radii : List ℕ
  pub rows : List (List Run)

-- the radius and the row at a place are those of the cell there
pub record IsNearAt (map : Map) (cells : List Cell) (nearby : Nearby) (place : ℕ) : Type 0 where
  pub radius : IsNearRadius map cells (cell_of cells place) (slice_index nearby.radii place)
  pub row : IsNearRow map cells (cell_of cells place) (slice_index nearby.radii place) (row_at nearby.rows place)

-- the near radius and the near row of each of the cells
pub record AreNear (map : Map) (cells : List Cell) (nearby : Nearby) : Type 0 where
  pub radii : length nearby.radii ≡ length cells
  pub rows : length nearby.rows ≡ length cells
  pub each : (place : ℕ) → place < length cells → IsNearAt map cells nearby place

-- the greatest of some numbers, 0 where there are none
pub record IsGreatest (numbers : List ℕ) (greatest : ℕ) : Type 0 where
  pub most : All (λ number. number ≤ greatest) numbers
  pub attained : 0 < greatest → Contains numbers greatest

-- how many runs the near rows of a component have
abbrev pub runs_in : Nearby → ℕ
runs_in nearby = sum_by length nearby.rows

-- a near row fits its widened sets, and no row that fits them has fewer runs
pub record HasFewestNear (map : Map) (cells : List Cell) (source : Cell) (radius : ℕ) (row : List Run) : Type 0 where
  pub sets : List ℕ
  pub widened : AreWidened map source radius cells sets
  pub fits : Fits row sets
  pub fewest : (other : List Run) → Fits other sets → length row ≤ length other

-- near rows have the fewest runs that their widened sets allow
abbrev pub NearRowsHaveFewestRuns : Type 0
NearRowsHaveFewestRuns =
    (map : Map) (cells : List Cell) (source : Cell) (radius : ℕ) (row : List Run)
    → IsNearRow map cells source radius row → HasFewestNear map cells source radius row
