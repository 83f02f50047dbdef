-- The compass move from a cell to another, and the square of a radius round a cell.
use Rattle.std.specs.Prelude.{◌≡◌, ℕ, ◌+◌, ◌<◌, ◌≤◌}
use Rattle.moves.specs.declared.Cell.{Cell}
use Rattle.moves.specs.declared.Move.{Move}
use Rattle.moves.specs.declared.Move.TheVariants.{N, NE, E, SE, S, SW, W, NW}

-- the compass move: each of its steps has the sign of the difference
abbrev pub IsCompass : Cell → Move → Cell → Type 0
IsCompass from N to = (to.x ≡ from.x) × (to.y < from.y)
IsCompass from NE to = (from.x < to.x) × (to.y < from.y)
IsCompass from E to = (from.x < to.x) × (to.y ≡ from.y)
IsCompass from SE to = (from.x < to.x) × (from.y < to.y)
IsCompass from S to = (to.x ≡ from.x) × (from.y < to.y)
IsCompass from SW to = (to.x < from.x) × (from.y < to.y)
IsCompass from W to = (to.x < from.x) × (to.y ≡ from.y)
IsCompass from NW to = (to.x < from.x) × (to.y < from.y)

-- the cell lies in the square of that radius round another
pub record IsInSquare (centre : Cell) (radius : ℕ) (cell : Cell) : Type 0 where
  pub right : cell.x ≤ centre.x + radius
  pub left : centre.x ≤ cell.x + radius
  pub bottom : cell.y ≤ centre.y + radius
  pub top : centre.y ≤ cell.y + radius
