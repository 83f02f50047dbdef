-- A flood by straight moves: each component gets its label from the first of its cells that the scan meets.
use Rattle.std.specs.Prelude.{◌≡◌, ℕ, ◌+◌, ◌*◌, ◌==◌, ◌<◌, ◌≤◌, ◌⊎◌, true, false, IsFalse, List, filter, length, slice_index, slice_index_or}
use Rattle.components.specs.declared.TheConstants.{UNLABELLED}
use Rattle.moves.specs.declared.Cell.{Cell}
use Rattle.moves.specs.declared.Move.{Move}
use Rattle.moves.specs.declared.Terrain.{Terrain}
use Rattle.moves.specs.Maps.{Map, IsInside, IsPassable, passable_of, passable_count, place_of, terrain_of}
use Rattle.moves.specs.Moves.{is_diagonal, IsLegal}
use Rattle.moves.specs.Paths.{Reaches}
use Rattle.components.specs.Marks.{Marks, label_at, with_mark, count_below}

-- the cell is passable and has no label yet
pub record IsFresh (map : Map) (marks : Marks) (cell : Cell) : Type 0 where
  pub passable : IsPassable map cell
  pub unlabelled : label_at map.width marks cell ≡ UNLABELLED

-- the cell has that terrain and no label yet
pub record IsFreshOf (map : Map) (class : Terrain) (marks : Marks) (cell : Cell) : Type 0 where
  pub terrain : terrain_of map cell ≡ class
  pub unlabelled : label_at map.width marks cell ≡ UNLABELLED

-- there is room for each passable cell, only passable cells have labels, and `count` is their number
pub record IsBalanced (map : Map) (marks : Marks) : Type 0 where
  pub places : length marks.labels ≡ map.width * map.height
  pub whole : length map.terrain ≡ map.width * map.height
  pub room : length marks.found ≡ passable_count map
  pub count : marks.count ≡ count_below UNLABELLED marks.labels
  pub range : (place : ℕ) → slice_index marks.labels place ≤ UNLABELLED
  pub passable : (place : ℕ) → place < length marks.labels → slice_index marks.labels place < UNLABELLED
      → slice_index_or (passable_of map) place false ≡ true

-- the move was tried from a cell that has the label: its target got the label if it was fresh, and otherwise nothing
-- changed
abbrev pub Claimed : Map → ℕ → Cell → Move → Marks → Marks → Type 0
Claimed map label from by old new =
    ((new ≡ old) × ((to : Cell) → IsLegal map from by to → label_at map.width old to < UNLABELLED))
    ⊎ ((to : Cell) × IsLegal map from by to × IsFresh map old to × (new ≡ with_mark map.width old to label))

-- the cell's straight moves lead to cells with labels
abbrev pub IsSurrounded : Map → Marks → Cell → Type 0
IsSurrounded map marks cell =
    (by : Move) (to : Cell) → IsFalse (is_diagonal by) → IsLegal map cell by to → label_at map.width marks to < UNLABELLED

-- The marks have grown from earlier ones by the label of one component: the cells that got it are reached from its
-- root, and they are in the queue from the earlier count on.
pub record IsSpread (map : Map) (label : ℕ) (root : Cell) (old new : Marks) : Type 0 where
  pub balanced : IsBalanced map new
  pub begun : label_at map.width new root ≡ label
  pub kept : (cell : Cell) → IsInside map cell → label_at map.width old cell < UNLABELLED
      → label_at map.width new cell ≡ label_at map.width old cell
  pub fresh : (cell : Cell) → IsInside map cell → label_at map.width new cell < UNLABELLED
      → (label_at map.width old cell ≡ label_at map.width new cell)
      ⊎ ((label_at map.width old cell ≡ UNLABELLED) × (label_at map.width new cell ≡ label) × Reaches map root cell)
  pub below : (limit : ℕ) → limit ≤ label → count_below limit new.labels ≡ count_below limit old.labels
  pub queue : (place : ℕ) (cell : Cell) → old.count ≤ place → place < new.count
      → IsInside map (slice_index_or new.found place cell) × (label_at map.width new (slice_index_or new.found place cell) ≡ label)

-- all labels are below the number; straight moves keep the label, and cells with the same label reach each other
pub record IsFlooded (map : Map) (number : ℕ) (marks : Marks) : Type 0 where
  pub balanced : IsBalanced map marks
  pub known : (place : ℕ) → place < length marks.labels
      → (slice_index marks.labels place < number) ⊎ (slice_index marks.labels place ≡ UNLABELLED)
  pub closed : (from : Cell) (by : Move) (to : Cell) → IsFalse (is_diagonal by) → IsLegal map from by to
      → label_at map.width marks from < UNLABELLED
      → label_at map.width marks to ≡ label_at map.width marks from
  pub joined : (a b : Cell) → IsInside map a → IsInside map b → label_at map.width marks a < UNLABELLED
      → label_at map.width marks b ≡ label_at map.width marks a → Reaches map a b

-- All cells before a place have been tried: the passable ones have labels, each label below the number has a cell among
-- them, and a cell of each smaller label comes before each labelled cell.
pub record IsScanned (map : Map) (place number : ℕ) (marks : Marks) : Type 0 where
  pub flooded : IsFlooded map number marks
  pub passed : (cell : Cell) → IsPassable map cell → place_of map.width cell < place → label_at map.width marks cell < UNLABELLED
  pub rooted : (label : ℕ) → label < number
      → (cell : Cell) × IsInside map cell × (place_of map.width cell < place) × (label_at map.width marks cell ≡ label)
  pub ordered : (cell : Cell) (label : ℕ) → IsInside map cell → label_at map.width marks cell < UNLABELLED
      → label < label_at map.width marks cell
      → (earlier : Cell) × IsInside map earlier × (place_of map.width earlier < place_of map.width cell)
      × (label_at map.width marks earlier ≡ label)
  pub few : number ≤ place

-- those of the cells that have the label
abbrev pub labelled_among : ℕ → Marks → ℕ → List Cell → List Cell
labelled_among width marks label cells = filter (λ c. label_at width marks c == label) cells

-- where the cells of each label begin, one place to the right, with 0 in front
pub record AreStarts (number : ℕ) (labels starts : List ℕ) : Type 0 where
  pub size : length starts ≡ number + 1
  pub first : slice_index starts 0 ≡ 0
  pub each : (label : ℕ) → label < number → slice_index starts (label + 1) ≡ count_below label labels
