-- A cell that alone holds parts of a component together: where it is blocked, the parts are components by themselves.
use Rattle.std.specs.Prelude.{◌≡◌, ◌⊎◌, ◌↔◌, List, Contains}
use Rattle.moves.specs.declared.Cell.{Cell}
use Rattle.moves.specs.Maps.{Map, IsInside, IsLike, is_cell, has_cell}
use Rattle.moves.specs.Components.{IsComponent}
use Rattle.moves.specs.ComponentLaws.{HasJust}
use Rattle.kept_sources.specs.Parts.{without, IsPart, HaveSameFirst, HaveSameCost}
use Rattle.kept_sources.specs.Gates.{IsLeftByGates, IsGivenByOne}

-- a component of the map without one cell is a side of the map that is left by that cell alone
abbrev pub ComponentsAreLeftByOne : Type 0
ComponentsAreLeftByOne =
    (map : Map) (cell : Cell) (cells : List Cell) → IsInside map cell → IsComponent (without map cell) cells
    → IsLeftByGates map (is_cell cell) (has_cell cells)

-- The law of the split: what leads from a component of the map without one cell to any other cell goes by that cell.
abbrev pub SplitsGoByOne : Type 0
SplitsGoByOne =
    (map : Map) (cell : Cell) (cells : List Cell) → IsInside map cell → IsComponent (without map cell) cells
    → (from to : Cell) → Contains cells from → (Contains cells to → ⊥) → IsGivenByOne map cell from to

-- cells of a map that are all of one class, as they are where paths connect them
abbrev pub AreOfOneClass : Map → List Cell → Type 0
AreOfOneClass map cells = (cell other : Cell) → Contains cells cell → Contains cells other → IsLike map cell other

-- a map that has just some cells of another, of one class there, is a part of it
abbrev pub JustSomeAreAPart : Type 0
JustSomeAreAPart =
    (map part : Map) (cells : List Cell) → AreOfOneClass map cells → HasJust part cells → IsPart map part

-- the list has the cells of the other list and that cell
abbrev pub HasAlso : List Cell → List Cell → Cell → Type 0
HasAlso all cells cell = (other : Cell) → Contains all other ↔ (Contains cells other ⊎ (other ≡ cell))

-- The law of a part by itself: where a component of the map without one cell and that cell are of one class, the first
-- sets and least costs among them are, on the map, those of these cells alone.
abbrev pub PartsStandAlone : Type 0
PartsStandAlone =
    (map part : Map) (cell : Cell) (cells all : List Cell) → IsInside map cell → IsComponent (without map cell) cells
    → HasAlso all cells cell → AreOfOneClass map all → HasJust part all
    → (from to : Cell) → Contains all from → Contains all to
    → HaveSameFirst map part from to × HaveSameCost map part from to
