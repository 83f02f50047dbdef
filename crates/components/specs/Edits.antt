-- What an edit of a map leaves of its components, and the cells from which the rest is flooded again.
use Rattle.std.specs.Prelude.{◌≡◌, ℕ, ◌+◌, ◌*◌, ◌<◌, ◌≤◌, ◌⊎◌, Bool, false, true, IsFalse, List, [], length, slice_index, slice_index_or, All, AllPairs, Contains}
use Rattle.moves.specs.declared.Cell.{Cell}
use Rattle.moves.specs.declared.Move.{Move}
use Rattle.moves.specs.Maps.{Map, IsInside, IsPassable, place_of, terrain_of}
use Rattle.moves.specs.Moves.{is_diagonal, IsTarget}
use Rattle.moves.specs.Paths.{Reaches}
use Rattle.moves.specs.Components.{IsComponent, first_of}
use Rattle.components.specs.Groups.{IsLabelOf}

-- the two maps have the same sides
pub record HaveSameSides (a b : Map) : Type 0 where
  pub width : a.width ≡ b.width
  pub height : a.height ≡ b.height

-- each cell inside is in the list or has the same terrain in both maps
abbrev pub AreChanged : Map → Map → List Cell → Type 0
AreChanged old new changed =
    (cell : Cell) → IsInside old cell → Contains changed cell ⊎ (terrain_of new cell ≡ terrain_of old cell)

-- the components before an edit, which of them it touches, and the cells from which to flood
pub record Plan : Type 0 where
  pub components : List (List Cell)
  pub touched : List Bool
  pub seeds : List Cell

-- the component with that number is touched
abbrev pub IsTouched : List Bool → ℕ → Type 0
IsTouched touched label = slice_index_or touched label false ≡ true

-- what was touched stays touched
abbrev pub KeepsTouched : List Bool → List Bool → Type 0
KeepsTouched old new = (label : ℕ) → IsTouched old label → IsTouched new label

-- the component that has the cell is touched
abbrev pub TouchesAt : List (List Cell) → Cell → List Bool → Type 0
TouchesAt components cell touched = (label : ℕ) → IsLabelOf components cell label → IsTouched touched label

-- the component of the cell that the move leads to is touched
abbrev pub TouchesBeside : Map → List (List Cell) → Cell → Move → List Bool → Type 0
TouchesBeside map components cell by touched =
    (next : Cell) (label : ℕ) → IsTarget cell by next → IsInside map next → IsLabelOf components next label → IsTouched touched label

-- the components that the cell is in or beside are touched
pub record TouchesAround (map : Map) (components : List (List Cell)) (cell : Cell) (touched : List Bool) : Type 0 where
  pub own : (label : ℕ) → IsInside map cell → IsLabelOf components cell label → IsTouched touched label
  pub beside : (by : Move) → IsInside map cell → IsFalse (is_diagonal by) → TouchesBeside map components cell by touched

-- the components that the cells are in or beside are touched
pub record AreTouched (map : Map) (components : List (List Cell)) (changed : List Cell) (touched : List Bool) : Type 0 where
  pub size : length touched ≡ length components
  pub each : (cell : Cell) → Contains changed cell → TouchesAround map components cell touched

-- the cell's component before the edit, if it had one, is touched
abbrev pub IsLoose : Plan → Cell → Type 0
IsLoose plan cell = (label : ℕ) → IsLabelOf plan.components cell label → IsTouched plan.touched label

-- Untouched components are still components. Each passable cell is reached from a seed that does not come after it, and
-- every cell that a loose seed reaches is a seed.
pub record IsPlan (map : Map) (plan : Plan) : Type 0 where
  pub size : length plan.touched ≡ length plan.components
  pub kept : (label : ℕ) → label < length plan.components → slice_index_or plan.touched label false ≡ false
      → IsComponent map (slice_index_or plan.components label [])
  pub inside : All (IsInside map) plan.seeds
  pub in_order : AllPairs (λ a b. place_of map.width a < place_of map.width b) plan.seeds
  pub rooted : (cell : Cell) → IsPassable map cell
      → (seed : Cell) × Contains plan.seeds seed × Reaches map seed cell × (place_of map.width seed ≤ place_of map.width cell)
  pub whole : (seed cell : Cell) → Contains plan.seeds seed → IsLoose plan seed → Reaches map seed cell → Contains plan.seeds cell

-- these cells are the cell's component before the edit, and the edit does not touch it
pub record IsKept (plan : Plan) (cell : Cell) (cells : List Cell) : Type 0 where
  pub label : ℕ
  pub labels : IsLabelOf plan.components cell label
  pub untouched : slice_index_or plan.touched label false ≡ false
  pub same : cells ≡ slice_index_or plan.components label []

-- the rank of a cell in row-major order, whatever the width
abbrev pub rank_of : Cell → ℕ
rank_of cell = 65536 * cell.y + cell.x

-- the ranks are those of cells inside
abbrev pub AreRanks : Map → List ℕ → Type 0
AreRanks map ranks = All (λ rank. (cell : Cell) × IsInside map cell × (rank ≡ rank_of cell)) ranks

-- no component is empty
abbrev pub HaveCells : List (List Cell) → Type 0
HaveCells components = (label : ℕ) → label < length components → 0 < length (slice_index_or components label [])

-- the ranks of one list are in the other too
abbrev pub KeepsRanks : List ℕ → List ℕ → Type 0
KeepsRanks old new = (rank : ℕ) → Contains old rank → Contains new rank

-- the ranks of the passable ones among the cells are in the list
abbrev pub HasPassableOf : Map → List Cell → List ℕ → Type 0
HasPassableOf map cells ranks =
    (cell : Cell) → Contains cells cell → IsPassable map cell → Contains ranks (rank_of cell)

-- the number at a place of the list is greater than all those before it
abbrev pub IsAboveAllBefore : List ℕ → ℕ → Type 0
IsAboveAllBefore ranks i = (j : ℕ) → j < i → slice_index ranks j < slice_index ranks i

-- the number at a place of the list is also at a place before it
abbrev pub StandsBefore : List ℕ → ℕ → Type 0
StandsBefore ranks i = (j : ℕ) × (j < i) × (slice_index ranks j ≡ slice_index ranks i)

-- ranks of the first cells of untouched components and of all cells of the touched ones, for the labels below a number
pub record AreFormerRanks (components : List (List Cell)) (touched : List Bool) (number : ℕ) (ranks : List ℕ) : Type 0 where
  pub of_kept : (label : ℕ) → label < number → slice_index_or touched label false ≡ false
      → Contains ranks (rank_of (first_of (slice_index_or components label [])))
  pub known : All (λ rank. (cell : Cell) × (label : ℕ) × IsLabelOf components cell label × (rank ≡ rank_of cell)) ranks
  pub of_touched : (label : ℕ) (cell : Cell) → label < number → IsTouched touched label
      → Contains (slice_index_or components label []) cell → Contains ranks (rank_of cell)

-- the cells with these ranks, each once, in row-major order
pub record AreCellsOf (ranks : List ℕ) (cells : List Cell) : Type 0 where
  pub small : All (λ cell. cell.x < 65536) cells
  pub in_order : AllPairs (λ a b. rank_of a < rank_of b) cells
  pub each : (cell : Cell) → Contains cells cell → Contains ranks (rank_of cell)
  pub every : (cell : Cell) → cell.x < 65536 → Contains ranks (rank_of cell) → Contains cells cell
