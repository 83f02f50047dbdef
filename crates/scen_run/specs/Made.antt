-- Maps that are made from two sides and a seed, by a formula.
use Rattle.std.specs.Prelude.{◌≡◌, ℕ, ◌+◌, ◌*◌, ◌%◌, ◌||◌, ◌==◌, Bool, not, map, take, count_by}
use Rattle.std.specs.List.{range_with_len}
use Rattle.moves.specs.declared.Cell.{Cell}
use Rattle.moves.specs.declared.TheConstants.{MAX_PASSABLE}
use Rattle.moves.specs.Maps.{Map, IsPassable, IsSearchable, map_with, passable_of, place_of, cell_at}
use Rattle.scen_run.specs.declared.made.TheConstants.{MODULUS}
use Rattle.scen_run.specs.declared.made.Made.{Made}
use Rattle.scen_run.specs.declared.made.Made.TheVariants.{Map as Whole, TooMany}

-- the number of a cell, from which the formula takes the remainder
abbrev pub mixed : ℕ → ℕ → ℕ → ℕ
mixed seed x y = 7 * x * x + 13 * y * y + 5 * x * y + seed * (x + 2 * y + 1)

-- whether the formula blocks the cell in column x and row y: the remainder is 9 or 10
abbrev pub is_blocked_at : ℕ → ℕ → ℕ → Bool
is_blocked_at seed x y = (mixed seed x y % MODULUS == 9) || (mixed seed x y % MODULUS == 10)

-- whether the cell at a place of a list that goes row by row is passable
abbrev pub is_free_at : ℕ → ℕ → ℕ → Bool
is_free_at width seed place = not (is_blocked_at seed (cell_at width place).x (cell_at width place).y)

-- the map of these sides, cell by cell: land or blocked
abbrev pub formula_map : ℕ → ℕ → ℕ → Map
formula_map width height seed = map_with width height (map (is_free_at width seed) (range_with_len 0 (width * height)))

-- the cell is passable, and as many passable cells as a map that is searched may have come before it, row by row
pub record IsTooMany (map : Map) (cell : Cell) : Type 0 where
  pub passable : IsPassable map cell
  pub before : count_by (λ passable. passable) (take (place_of map.width cell) (passable_of map)) ≡ MAX_PASSABLE

-- what is made of the map: the map itself where it may be searched, and else the place of the first cell too many
abbrev pub IsMade : Map → Made → Type 0
IsMade map (Whole grid) = IsSearchable map × (grid ≡ map)
IsMade map (TooMany x y) = (IsSearchable map → ⊥) × IsTooMany map (record { x = x; y = y })
