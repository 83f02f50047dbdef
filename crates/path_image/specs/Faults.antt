-- Why words are no image.
use Rattle.std.specs.Prelude.{◌≡◌, ℕ, ◌+◌, ◌*◌, ◌<◌, List, ◌++◌, codes, length, slice_index}
use Rattle.std.specs.Fmt.{decimal}
use Rattle.moves.specs.Maps.{IsWithinLimits}
use Rattle.path_image.specs.declared.TheConstants.{FORM, HEAD}
use Rattle.path_image.specs.declared.checking.ImageFault.{ImageFault}
use Rattle.path_image.specs.declared.checking.ImageFault.TheVariants.{Magic, Form, Length, Sides, Lists, Table, Home}
use Rattle.path_image.specs.Reading.{width_in, height_in, count_in, start_in, HasLists, HasMagic, IsTable, LeadsHome}

-- the part that is wrong, in words
abbrev pub fault_text : ImageFault → List ℕ
fault_text Magic = codes "no image"
fault_text Form = codes "an image of another form"
fault_text Length = codes "more words or fewer than the image says"
fault_text Sides = codes "sides that no map has"
fault_text Lists = codes "too few words for the cells"
fault_text (Table component) = codes "wrong table of component " ++ decimal component
fault_text (Home place) = codes "wrong word of the cell at place " ++ decimal place

-- the part of the words that is wrong
abbrev pub IsFaultOf : List ℕ → ImageFault → Type 0
IsFaultOf words Magic = HasMagic words → ⊥
IsFaultOf words Form = slice_index words 2 ≡ FORM → ⊥
IsFaultOf words Length = slice_index words 3 ≡ length words → ⊥
IsFaultOf words Sides = IsWithinLimits (width_in words) (height_in words) → ⊥
IsFaultOf words Lists = HasLists words → ⊥
IsFaultOf words (Table component) = (component < count_in words) × (IsTable words (start_in words component) → ⊥)
IsFaultOf words (Home place) =
    (place < width_in words * height_in words) × (LeadsHome words (slice_index words (HEAD + place)) → ⊥)
