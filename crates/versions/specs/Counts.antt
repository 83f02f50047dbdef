-- What is built and what is kept when one map follows another, counted in cells.
use Rattle.std.specs.Prelude.{◌≡◌, ℕ, Bool, true, false, ◌&&◌, not, List, [], ◌∷◌, length, filter, sum_by}
use Rattle.std.specs.List.{list_any}
use Rattle.moves.specs.declared.Cell.{Cell}
use Rattle.moves.specs.Maps.{Map, is_cell}
use Rattle.moves.specs.Components.{IsComponentList}

-- whether two lists of cells are equal
abbrev pub is_same : List Cell → List Cell → Bool
is_same [] [] = true
is_same (a ∷ xs) (b ∷ ys) = is_cell a b && is_same xs ys
is_same _ _ = false

-- whether the cells are those of one of these components
abbrev pub is_among : List (List Cell) → List Cell → Bool
is_among components cells = list_any (is_same cells) components

-- the number of cells in components that are among the former ones, and the number in the others
abbrev pub cells_kept : List (List Cell) → List (List Cell) → ℕ
cells_kept former components = sum_by length (filter (is_among former) components)

abbrev pub cells_built : List (List Cell) → List (List Cell) → ℕ
cells_built former components = sum_by length (filter (λ cells. not (is_among former cells)) components)

-- Counts over two maps: `kept` is the number of cells in components of the map that are also components of the former
-- map, and `built` is the number of cells in the others.
pub record AreCounts (former map : Map) (built kept : ℕ) : Type 0 where
  pub before : List (List Cell)
  pub after : List (List Cell)
  pub listed_before : IsComponentList former before
  pub listed_after : IsComponentList map after
  pub built_is : built ≡ cells_built before after
  pub kept_is : kept ≡ cells_kept before after
