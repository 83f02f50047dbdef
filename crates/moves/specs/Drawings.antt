-- Maps drawn row by row with `/` between the rows: `.` is land, `W` water, and any other byte a blocked cell. "../@."
-- has two rows of two cells, and the first cell of the second row is blocked.
use Rattle.std.specs.Prelude.{◌≡◌, ℕ, ◌==◌, cond, not, List, map, filter, length, replicate, flat_map}
use Rattle.std.specs.List.{slice_split}
use Rattle.moves.specs.declared.Terrain.{Terrain}
use Rattle.moves.specs.declared.Terrain.TheVariants.{Blocked, Land, Water}

-- what a byte of a drawing stands for
abbrev pub terrain_drawn : ℕ → Terrain
terrain_drawn byte = cond (byte == 46) Land (cond (byte == 87) Water Blocked)

-- the rows of a drawing
abbrev pub rows_drawn : List ℕ → List (List ℕ)
rows_drawn drawing = slice_split (λ byte. byte == 47) drawing

-- the drawing has `height` rows of `width` cells each
abbrev pub IsDrawing : ℕ → ℕ → List ℕ → Type 0
IsDrawing width height drawing = map length (rows_drawn drawing) ≡ replicate height width

-- the bytes of a drawing, without the marks between its rows, as cells
abbrev pub cells_between_marks : List ℕ → List Terrain
cells_between_marks drawing = map terrain_drawn (filter (λ byte. not (byte == 47)) drawing)

-- the cells of a drawing, row by row
abbrev pub cells_drawn : List ℕ → List Terrain
cells_drawn drawing = flat_map (map terrain_drawn) (rows_drawn drawing)
