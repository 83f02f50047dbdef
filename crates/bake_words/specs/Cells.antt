-- Maps that are given as bytes, one a cell, row by row. An example: the bytes 1 0 2 with the sides 3 and 1 are the map `.@W`.
use Rattle.std.specs.Prelude.{◌≡◌, ℕ, ◌*◌, ◌<◌, List, length, map, Option, Some, None, slice_index, if◌then◌else◌, ◌==◌}
use Rattle.moves.specs.declared.Terrain.{Terrain}
use Rattle.moves.specs.declared.Terrain.TheVariants.{Blocked, Land, Water}
use Rattle.moves.specs.declared.TheConstants.{MAX_PASSABLE}
use Rattle.moves.specs.Maps.{Map, IsWithinLimits, passable_count}
use Rattle.bake_words.specs.declared.fault.CellsFault.{CellsFault}
use Rattle.bake_words.specs.declared.fault.CellsFault.TheVariants.{Sides, Count, BadByte, TooManyCells, NoMemory}

-- what a byte stands for
abbrev pub terrain_of_byte : ℕ → Option Terrain
terrain_of_byte byte =
    if byte == 0 then Some Blocked
    else (if byte == 1 then Some Land
    else (if byte == 2 then Some Water else None))

-- each byte stands for what stands at its cell
abbrev pub AreCells : List ℕ → List Terrain → Type 0
AreCells bytes terrain = map terrain_of_byte bytes ≡ map Some terrain

-- the map has these sides, which a map may have, and these cells
pub record HasCells (width height : ℕ) (bytes : List ℕ) (m : Map) : Type 0 where
  pub sides : IsWithinLimits width height
  pub wide : m.width ≡ width
  pub high : m.height ≡ height
  pub cells : AreCells bytes m.terrain

-- why bytes are no cells of a map
abbrev pub IsCellsFaultOf : ℕ → ℕ → List ℕ → CellsFault → Type 0
IsCellsFaultOf width height bytes Sides = IsWithinLimits width height → ⊥
IsCellsFaultOf width height bytes Count = length bytes ≡ width * height → ⊥
IsCellsFaultOf width height bytes (BadByte place) = (place < length bytes) × (terrain_of_byte (slice_index bytes place) ≡ None)
IsCellsFaultOf width height bytes TooManyCells = (m : Map) → HasCells width height bytes m → MAX_PASSABLE < passable_count m
IsCellsFaultOf width height bytes NoMemory = Unit {0}

-- why bytes are no cells, whatever the sides
abbrev pub IsByteFaultOf : List ℕ → CellsFault → Type 0
IsByteFaultOf bytes fault = (width height : ℕ) → IsCellsFaultOf width height bytes fault
