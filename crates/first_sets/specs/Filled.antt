-- The first sets of all cells of a map from one source, kept row by row.
use Rattle.std.specs.Prelude.{◌≡◌, ℕ, ◌↔◌, List, slice_index}
use Rattle.moves.specs.declared.Cell.{Cell}
use Rattle.moves.specs.declared.Move.{Move}
use Rattle.moves.specs.Maps.{Map, IsInside, place_of}
use Rattle.moves.specs.MoveSets.{Has, IsEmpty}
use Rattle.moves.specs.Paths.{Reaches}
use Rattle.moves.specs.FirstSets.{IsFirstMove}

-- first sets as their callers see them: the number of cells there is room for, the sides of the map filled last, and
-- the sets of its cells, row by row
pub record Filled : Type 0 where
  pub room : ℕ
  pub width : ℕ
  pub height : ℕ
  pub sets : List ℕ

-- the set of a cell
abbrev pub set_at : Filled → Cell → ℕ
set_at filled cell = slice_index filled.sets (place_of filled.width cell)

-- the set of each cell has exactly the moves that begin a best path from the source to that cell
pub record HasFirstSets (map : Map) (source : Cell) (filled : Filled) : Type 0 where
  pub width : filled.width ≡ map.width
  pub height : filled.height ≡ map.height
  pub first : (cell : Cell) (move : Move) → IsInside map cell
      → Has (set_at filled cell) move ↔ IsFirstMove map source cell move

-- whatever the map and the source of the sets, this set has exactly the moves that begin a best path to the cell
abbrev pub IsFirstSet : Filled → Cell → ℕ → Type 0
IsFirstSet filled cell set =
    (map : Map) (source : Cell) → HasFirstSets map source filled → (move : Move)
    → Has set move ↔ IsFirstMove map source cell move

-- whatever the map and the source of the sets, this set is empty exactly when no path leads to the cell
abbrev pub IsEmptyIfUnreached : Filled → Cell → ℕ → Type 0
IsEmptyIfUnreached filled cell set =
    (map : Map) (source : Cell) → HasFirstSets map source filled → IsEmpty set ↔ (Reaches map source cell → ⊥)
