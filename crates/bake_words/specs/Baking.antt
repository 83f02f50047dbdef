-- Images that are baked into a room of words.
use Rattle.std.specs.Prelude.{◌≡◌, ℕ, ◌+◌, ◌*◌, ◌<◌, ◌≤◌, List, length, take, drop, slice_index}
use Rattle.moves.specs.Maps.{Map, IsWithinLimits}
use Rattle.cell_order.specs.declared.OrderKind.{OrderKind}
use Rattle.versions.specs.Databases.{Versioned, IsVersion}
use Rattle.bake_words.specs.declared.fault.BakeFault.{BakeFault}
use Rattle.bake_words.specs.declared.fault.BakeFault.TheVariants.{TooSmall, NoMemory}
use Rattle.path_image.specs.Images.{IsImageOf, image_size}
use Rattle.path_image.specs.Reading.{LeadsInside}

-- The version of a map before all edits, in that order. A map has one database in each order, so there is one such version.
pub record IsFirstVersion (map : Map) (order : OrderKind) (version : Versioned) : Type 0 where
  pub of : version.map ≡ map
  pub first : version.prefix ≡ 0
  pub in_order : version.order ≡ order
  pub is : IsVersion version
  pub sides : IsWithinLimits version.map.width version.map.height

-- The first words of a room are the image of the first version of the map, and the others are as they were. So they pass the
-- look at an image.
pub record BakesInto (map : Map) (order : OrderKind) (old new : List ℕ) (count : ℕ) : Type 0 where
  pub version : Versioned
  pub first : IsFirstVersion map order version
  pub inside : count ≤ length old
  pub image : IsImageOf (take count new) version
  pub passes : LeadsInside (take count new)
  pub rest : drop count new ≡ drop count old

-- a room has fewer words than the image of the first version of the map, which has so many
pub record NeedsRoom (map : Map) (order : OrderKind) (room : List ℕ) (needed : ℕ) : Type 0 where
  pub version : Versioned
  pub first : IsFirstVersion map order version
  pub size : needed ≡ image_size version
  pub small : length room < needed

-- why nothing was baked; want of memory alone is free
abbrev pub IsBakeFaultOf : Map → OrderKind → List ℕ → BakeFault → Type 0
IsBakeFaultOf map order room (TooSmall needed) = NeedsRoom map order room needed
IsBakeFaultOf map order room NoMemory = Unit {0}

-- a word that is given as four bytes, the lowest first
abbrev pub word_of_bytes : List ℕ → ℕ → ℕ
word_of_bytes bytes place =
    slice_index bytes (4 * place) + 256 * slice_index bytes (4 * place + 1) + 65536 * slice_index bytes (4 * place + 2)
    + 16777216 * slice_index bytes (4 * place + 3)
