-- The words of the cells of a map, while they are set.
use Rattle.std.specs.Prelude.{◌≡◌, ℕ, ◌+◌, ◌*◌, ◌<◌, ◌⊎◌, List, length, slice_index}
use Rattle.moves.specs.declared.Cell.{Cell}
use Rattle.moves.specs.Maps.{Map, cell_at, place_of}
use Rattle.moves.specs.FirstSetLists.{cell_of}
use Rattle.cell_order.specs.declared.OrderKind.{OrderKind}
use Rattle.versions.specs.Databases.{Versioned, comp_at}
use Rattle.path_image.specs.declared.TheConstants.{HALF, BLOCKED}
use Rattle.path_image.specs.Images.{home_word, homes_of}
use Rattle.bake_parts.specs.Parts.{IsFirstVersion}

-- they are those of the version
pub record AreHomes (on : Map) (order : OrderKind) (homes : List ℕ) : Type 0 where
  pub size : length homes ≡ on.width * on.height
  pub are : (version : Versioned) → IsFirstVersion on order version → homes ≡ homes_of version

-- each word is the right one of its place, or as it was, and it is the right one at the first of the cells
pub record AreRight (right : ℕ → ℕ) (width : ℕ) (cells : List Cell) (upto : ℕ) (old new : List ℕ) : Type 0 where
  pub each : (at : ℕ) → (slice_index new at ≡ slice_index old at) ⊎ (slice_index new at ≡ right at)
  pub done : (place : ℕ) → place < upto
      → slice_index new (place_of width (cell_of cells place)) ≡ right (place_of width (cell_of cells place))

-- so it is wherever the right words of the cells have the number of their component and their places
abbrev pub SetsHomes : ℕ → ℕ → List Cell → ℕ → List ℕ → List ℕ → Type 0
SetsHomes width number cells upto old new =
    (right : ℕ → ℕ) → ((place : ℕ) → place < length cells → number * HALF + place ≡ right (place_of width (cell_of cells place)))
    → AreRight right width cells upto old new

-- each word is the right one of its cell or that of a blocked one, and it is the right one of each cell of the first components
pub record AreHomesTo (version : Versioned) (number : ℕ) (homes : List ℕ) : Type 0 where
  pub each : (at : ℕ) → at < version.map.width * version.map.height
      → (slice_index homes at ≡ BLOCKED) ⊎ (slice_index homes at ≡ home_word 0 version.comps (cell_at version.map.width at))
  pub done : (label place : ℕ) → label < number → place < length (comp_at version.comps label).cells
      → slice_index homes (place_of version.map.width (cell_of (comp_at version.comps label).cells place))
      ≡ home_word 0 version.comps (cell_of (comp_at version.comps label).cells place)
