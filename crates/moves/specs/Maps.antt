-- Maps. The upper left cell is (0, 0); x grows to the right and y downwards. A cell is blocked, land or water: `@`, `.`
-- and `W` in a map file. (MovingAI map format page)
use Rattle.std.specs.Prelude.{◌≡◌, ℕ, ◌+◌, ◌*◌, ◌/◌, ◌%◌, ◌<◌, ◌≤◌, ◌⊎◌, ◌==◌, Bool, false, true, ◌&&◌}
use Rattle.std.specs.Prelude.{List, map, filter, length, replicate, slice_index_or, slice_set, count_by, cond}
use Rattle.std.specs.List.{list_any, range_with_len}
use Rattle.moves.specs.declared.Cell.{Cell}
use Rattle.moves.specs.declared.Terrain.{Terrain}
use Rattle.moves.specs.declared.Terrain.TheVariants.{Blocked, Land, Water}
use Rattle.moves.specs.declared.TheConstants.{MAX_SIDE, MAX_CELLS, MAX_PASSABLE}

-- land and water are passable
abbrev pub is_passable : Terrain → Bool
is_passable Blocked = false
is_passable Land = true
is_passable Water = true

-- land if true, else blocked
abbrev pub land_if : Bool → Terrain
land_if passable = cond passable Land Blocked

-- a map: its sides, and the terrain of each cell, row by row
pub record Map : Type 0 where
  pub width : ℕ
  pub height : ℕ
  pub terrain : List Terrain

-- for each cell, row by row, whether it is passable
abbrev pub passable_of : Map → List Bool
passable_of m = map is_passable m.terrain

-- the map of these sides with these cells
abbrev pub map_of : ℕ → ℕ → List Terrain → Map
map_of width height terrain = record { width = width; height = height; terrain = terrain }

-- the map of these sides whose cells are land for `true` and blocked for `false`
abbrev pub map_with : ℕ → ℕ → List Bool → Map
map_with width height passable = map_of width height (map land_if passable)

-- the map of these sides whose cells are all blocked
abbrev pub blocked_map : ℕ → ℕ → Map
blocked_map width height = map_of width height (replicate (width * height) Blocked)

-- the limits on a map's sides and on the number of its cells
pub record IsWithinLimits (width height : ℕ) : Type 0 where
  pub some_columns : 0 < width
  pub some_rows : 0 < height
  pub columns : width ≤ MAX_SIDE
  pub rows : height ≤ MAX_SIDE
  pub cells : width * height ≤ MAX_CELLS

-- the place of a cell in a list that goes row by row
abbrev pub place_of : ℕ → Cell → ℕ
place_of width cell = cell.y * width + cell.x

-- the cell at a place of a list that goes row by row
abbrev pub cell_at : ℕ → ℕ → Cell
cell_at width place = record { x = place % width; y = place / width }

-- the cell lies inside the map
pub record IsInside (map : Map) (cell : Cell) : Type 0 where
  pub column : cell.x < map.width
  pub row : cell.y < map.height

-- the terrain of a cell that is inside
abbrev pub terrain_of : Map → Cell → Terrain
terrain_of map cell = slice_index_or map.terrain (place_of map.width cell) Blocked

-- the cell is inside and passable
pub record IsPassable (map : Map) (cell : Cell) : Type 0 where
  pub inside : IsInside map cell
  pub passable : slice_index_or (passable_of map) (place_of map.width cell) false ≡ true

-- the other cell is passable, and of the same class: land if the cell is land, water if it is water
pub record IsLike (map : Map) (cell other : Cell) : Type 0 where
  pub passable : IsPassable map other
  pub same : terrain_of map other ≡ terrain_of map cell

-- the map with the terrain of that one cell replaced
abbrev pub with_terrain : Map → Cell → Terrain → Map
with_terrain map cell terrain = record map { terrain = slice_set map.terrain (place_of map.width cell) terrain }

-- the map with that one cell made land or blocked
abbrev pub with_cell : Map → Cell → Bool → Map
with_cell map cell passable = with_terrain map cell (land_if passable)

-- how many cells are passable
abbrev pub passable_count : Map → ℕ
passable_count map = count_by (λ passable. passable) (passable_of map)

-- the map can be searched: it has no more passable cells than a search has room for
abbrev pub IsSearchable : Map → Type 0
IsSearchable map = passable_count map ≤ MAX_PASSABLE

-- the passable cells, row by row and in each row from left to right
abbrev pub passable_cells : Map → List Cell
passable_cells m =
    let places = range_with_len 0 (length m.terrain) in
    map (cell_at m.width) (filter (λ place. slice_index_or (passable_of m) place false) places)

-- a comes before b in row-major order
abbrev pub ComesBefore : Cell → Cell → Type 0
ComesBefore a b = (a.y < b.y) ⊎ ((a.y ≡ b.y) × (a.x < b.x))

-- whether two cells are the same
abbrev pub is_cell : Cell → Cell → Bool
is_cell a b = (a.x == b.x) && (a.y == b.y)

-- whether the cell is in the list
abbrev pub has_cell : List Cell → Cell → Bool
has_cell cells cell = list_any (is_cell cell) cells
