-- The image of the first version of a map, while it is put together.
use Rattle.std.specs.Prelude.{◌≡◌, ℕ, List}
use Rattle.versions.specs.Databases.{Versioned}
use Rattle.path_image.specs.Images.{head_of, image_of, image_size, tables_at}
use Rattle.bake_parts.specs.Joins.{AreParts}
use Rattle.bake_parts.specs.Parts.{IsFirstVersion}
use Rattle.bake_parts.specs.Plans.{Planned}
use Rattle.bake_parts.specs.Rooms.{GrowsFront}

-- the words are not those of the version's parts
abbrev pub BreaksParts : Planned → List ℕ → Type 0
BreaksParts plan parts = (version : Versioned) → IsFirstVersion plan.on plan.order version → AreParts version parts → ⊥

-- so many words the version's image has
abbrev pub SizesImage : Planned → List ℕ → ℕ → Type 0
SizesImage plan parts size =
    (version : Versioned) → IsFirstVersion plan.on plan.order version → AreParts version parts → size ≡ image_size version

-- and so many before the tables
abbrev pub CountsBefore : Planned → ℕ → Type 0
CountsBefore plan count = (version : Versioned) → IsFirstVersion plan.on plan.order version → count ≡ tables_at version

-- the first words are these, if the image has so many
abbrev pub BeginsImage : Planned → ℕ → List ℕ → Type 0
BeginsImage plan size words =
    (version : Versioned) → IsFirstVersion plan.on plan.order version → size ≡ image_size version → words ≡ head_of version

-- the whole image stands at the front of the room, if it has so many
abbrev pub PutsImage : Planned → List ℕ → ℕ → List ℕ → List ℕ → Type 0
PutsImage plan parts size old new =
    (version : Versioned) → IsFirstVersion plan.on plan.order version → AreParts version parts → size ≡ image_size version
    → GrowsFront 0 old new (image_of version)
