-- The cells in which two maps differ, found in row-major order.
use Rattle.std.specs.Prelude.{◌≡◌, ◌⊎◌, ℕ, List, Contains}
use Rattle.moves.specs.declared.Cell.{Cell}
use Rattle.moves.specs.Maps.{Map, IsInside, ComesBefore, terrain_of}

-- each cell inside before that column of that row is in the list, or the same stands there in both maps
abbrev pub AreChangedBefore : Map → Map → ℕ → ℕ → List Cell → Type 0
AreChangedBefore old new column row changed =
    (cell : Cell) → ComesBefore cell (record { x = column; y = row }) → IsInside old cell
    → Contains changed cell ⊎ (terrain_of new cell ≡ terrain_of old cell)
