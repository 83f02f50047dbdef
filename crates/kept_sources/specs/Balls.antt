-- Sources whose first sets stay where cells of a map are blocked or freed. The map with the cells and the map without
-- them are compared, so it is one law for both. (Botea 2011: a database has for each source its first sets to all
-- cells.)
use Rattle.std.specs.Prelude.{◌≡◌, ◌≢◌, ◌+◌, ◌≤◌, Bool, true, false}
use Rattle.moves.specs.declared.Cell.{Cell}
use Rattle.moves.specs.declared.Move.{Move}
use Rattle.moves.specs.Maps.{Map, IsInside, IsPassable}
use Rattle.moves.specs.Moves.{IsLegal}
use Rattle.kept_sources.specs.Parts.{IsPart, IsTakenOut}
pub use Rattle.kept_sources.specs.Parts.{without, HaveSameFirst, HaveSameCost}

-- the other cell is one of the eight round the cell
pub record IsBeside (cell other : Cell) : Type 0 where
  pub left : other.x ≤ cell.x + 1
  pub right : cell.x ≤ other.x + 1
  pub above : other.y ≤ cell.y + 1
  pub below : cell.y ≤ other.y + 1
  pub apart : other ≢ cell

-- ---- several cells at once

-- cells, told by a test, that have each cell of the part that is beside one that is taken out; it is nothing to the law
-- whether the test holds at cells that are taken out or blocked
abbrev pub IsRoundAll : Map → Map → (Cell → Bool) → Type 0
IsRoundAll map part ball =
    (cell other : Cell) → IsTakenOut map part cell → IsPassable part other → IsBeside cell other → ball other ≡ true

-- a legal move leads from the cell to one outside the ball
abbrev pub LeadsOut : Map → (Cell → Bool) → Cell → Type 0
LeadsOut map ball from = (move : Move) × (to : Cell) × IsLegal map from move to × (ball to ≡ false)

-- the first sets of a source to the part's cells in a ball are those of the map, and so are its least costs to those of
-- them from which a move leads out of the ball
pub record AgreesOnBall (map part : Map) (ball : Cell → Bool) (source : Cell) : Type 0 where
  pub first : (to : Cell) → ball to ≡ true → IsPassable part to → HaveSameFirst map part source to
  pub cost : (to : Cell) → ball to ≡ true → LeadsOut part ball to → HaveSameCost map part source to

-- the first sets of a source to all cells that are not taken out are those of the map, and so are its least costs to
-- all of them outside the ball
pub record AgreesEverywhere (map part : Map) (ball : Cell → Bool) (source : Cell) : Type 0 where
  pub first : (to : Cell) → (IsTakenOut map part to → ⊥) → HaveSameFirst map part source to
  pub cost : (to : Cell) → (IsTakenOut map part to → ⊥) → ball to ≡ false → HaveSameCost map part source to

-- The law of the ball for cells that are taken out together.
abbrev pub BallsRoundAllKeepSources : Type 0
BallsRoundAllKeepSources =
    (map part : Map) (ball : Cell → Bool) (source : Cell)
    → IsPart map part → IsRoundAll map part ball → AgreesOnBall map part ball source → AgreesEverywhere map part ball source

-- ---- one cell

-- cells, told by a test, that have all cells round a cell, and not the cell itself
pub record IsBall (ball : Cell → Bool) (cell : Cell) : Type 0 where
  pub round : (other : Cell) → IsBeside cell other → ball other ≡ true
  pub open_inside : ball cell ≡ false

-- the first sets of a source to the cells of a ball stay, and its least costs to those from which a move leads out of
-- it
pub record KeepsBall (map : Map) (cell : Cell) (ball : Cell → Bool) (source : Cell) : Type 0 where
  pub first : (to : Cell) → ball to ≡ true → HaveSameFirst map (without map cell) source to
  pub cost : (to : Cell) → ball to ≡ true → LeadsOut (without map cell) ball to → HaveSameCost map (without map cell) source to

-- the first sets of a source to all cells but that one stay, and its least costs to all outside the ball
pub record KeepsAll (map : Map) (cell : Cell) (ball : Cell → Bool) (source : Cell) : Type 0 where
  pub first : (to : Cell) → to ≢ cell → HaveSameFirst map (without map cell) source to
  pub cost : (to : Cell) → to ≢ cell → ball to ≡ false → HaveSameCost map (without map cell) source to

-- The law of the ball.
abbrev pub BallsKeepSources : Type 0
BallsKeepSources =
    (map : Map) (cell source : Cell) (ball : Cell → Bool)
    → IsInside map cell → IsBall ball cell → KeepsBall map cell ball source → KeepsAll map cell ball source
