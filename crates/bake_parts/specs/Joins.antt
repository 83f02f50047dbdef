-- The parts of an image one behind the other, and what is read in them.
use Rattle.std.specs.Prelude.{◌≡◌, ℕ, ◌+◌, ◌<◌, ◌≤◌, List, [], ◌∷◌, ◌++◌, ◌^◌, codes, length, map, take, drop, slice_index_or}
use Rattle.std.specs.Fmt.{decimal}
use Rattle.std.specs.List.{flat_map, range_with_len}
use Rattle.row_store.specs.Rows.{row_at}
use Rattle.row_store.specs.Comps.{Comp}
use Rattle.moves.specs.declared.Cell.{Cell}
use Rattle.versions.specs.Databases.{Versioned, IsVersion, comp_at}
use Rattle.path_image.specs.Images.{IsImageOf, image_size, row_words, row_start, table_of, tables_at, starts_of}
use Rattle.bake_parts.specs.declared.sources.Sources.{Sources}
use Rattle.bake_parts.specs.declared.part_rows.PartRows.{PartRows}
use Rattle.bake_parts.specs.declared.fault.JoinFault.{JoinFault}
use Rattle.bake_parts.specs.declared.fault.JoinFault.TheVariants.{Broken, TooSmall}
use Rattle.bake_parts.specs.Parts.{IsFirstVersion, HasSources, counted_rows, part_of}
use Rattle.bake_parts.specs.Plans.{Planned, HasComponent}
use Rattle.bake_parts.specs.Rooms.{GrowsFront}

-- the cells of some components, component by component
abbrev pub cells_of : List Comp → List Cell
cells_of comps = flat_map (λ comp. comp.cells) comps

-- how many cells the version has before the place of a component
abbrev pub spot : Versioned → ℕ → ℕ → ℕ
spot version component place = length (cells_of (take component version.comps)) + place

-- the sources go on from one to the next, from behind so many cells to the last cell
abbrev pub GoOn : Versioned → ℕ → List Sources → Type 0
GoOn version at [] = at ≡ length (cells_of version.comps)
GoOn version at (sources ∷ more) =
    HasSources version sources × (spot version sources.component sources.first ≡ at) × GoOn version (at + sources.count) more

-- the words are those of parts that have all sources of the version, in the order of the components and of their cells
pub record AreParts (version : Versioned) (words : List ℕ) : Type 0 where
  pub cut : List Sources
  pub all : GoOn version 0 cut
  pub are : words ≡ flat_map (part_of version) cut

-- where the parts are those of the version, its image stands at the front of the room, and what lies behind is as it was
abbrev pub JoinsParts : Planned → List ℕ → List ℕ → List ℕ → ℕ → Type 0
JoinsParts plan parts old new count =
    (version : Versioned) → IsFirstVersion plan.on plan.order version → AreParts version parts
    → IsImageOf (take count new) version × (drop count new ≡ drop count old)

-- why no image was joined, in words
abbrev pub join_fault_text : JoinFault → List ℕ
join_fault_text (Broken part) = codes "broken part " ++ decimal part
join_fault_text (TooSmall needed) = codes "room for too few words of " ++ decimal needed

-- a room of so many words is too small for the image, which has so many as are needed where the parts are those of the version
pub record IsTooSmallToJoin (plan : Planned) (parts : List ℕ) (size needed : ℕ) : Type 0 where
  pub small : size < needed
  pub needs : (version : Versioned) → IsFirstVersion plan.on plan.order version → AreParts version parts → needed ≡ image_size version

-- the cause of each fault: the parts are not those of the version, or the room is too small
abbrev pub IsJoinFaultOf : Planned → List ℕ → ℕ → JoinFault → Type 0
IsJoinFaultOf plan parts size (Broken part) = (version : Versioned) → IsFirstVersion plan.on plan.order version → AreParts version parts → ⊥
IsJoinFaultOf plan parts size (TooSmall needed) = IsTooSmallToJoin plan parts size needed

-- ---- while parts are read

-- what is left of the parts at the place of a component: the rows of the part at hand, and the parts behind it
pub record IsAt (version : Versioned) (component place left : ℕ) (words : List ℕ) : Type 0 where
  pub cut : List Sources
  pub behind : GoOn version (spot version component place + left) cut
  pub inside : place + left ≤ length (comp_at version.comps component).cells
  pub are : words ≡ counted_rows (comp_at version.comps component).rows place left ++ flat_map (part_of version) cut

-- a version, in which the component with that number has so many cells
pub record IsOf (version : Versioned) (component size : ℕ) : Type 0 where
  pub is : IsVersion version
  pub within : component < length version.comps
  pub long : size ≡ length (comp_at version.comps component).cells

-- the words of the row at a place are read, and the next place is that behind it
abbrev pub ReadsRow : ℕ → ℕ → ℕ → PartRows → PartRows → List ℕ → Type 0
ReadsRow component place size old new row =
    (version : Versioned) → IsOf version component size → IsAt version component place old.left old.rest.now
    → (row ≡ row_words (row_at (comp_at version.comps component).rows place)) × IsAt version component (place + 1) new.left new.rest.now

-- so it is at the head of a part
abbrev pub BeginsPart : ℕ → ℕ → ℕ → PartRows → PartRows → Type 0
BeginsPart component place size old new =
    (version : Versioned) → IsOf version component size → IsAt version component place old.left old.rest.now
    → IsAt version component place new.left new.rest.now

-- no parts of a version have these words at the place
abbrev pub IsNoRow : ℕ → ℕ → ℕ → PartRows → Type 0
IsNoRow component place size rows =
    (version : Versioned) → IsOf version component size → IsAt version component place rows.left rows.rest.now → ⊥

-- nor from the first place of the component on
abbrev pub AreNoRows : ℕ → ℕ → PartRows → Type 0
AreNoRows component size rows = IsNoRow component 0 size rows

-- all rows of the component are read, and what follows is that behind them
abbrev pub PassesRows : ℕ → ℕ → PartRows → PartRows → Type 0
PassesRows component size old new =
    (version : Versioned) → IsOf version component size → IsAt version component 0 old.left old.rest.now
    → IsAt version component size new.left new.rest.now

-- so many runs they have
abbrev pub CountsRuns : ℕ → ℕ → PartRows → ℕ → Type 0
CountsRuns component size rows runs =
    (version : Versioned) → IsOf version component size → IsAt version component 0 rows.left rows.rest.now
    → runs ≡ length (flat_map row_words (comp_at version.comps component).rows)

-- these words are put behind what stands at the front
pub record PutsWords (at upto : ℕ) (old new words : List ℕ) : Type 0 where
  pub end : upto ≡ at + length words
  pub grows : GrowsFront at old new words

-- where the rows of the component begin and the last ends
abbrev pub PutsBorders : ℕ → ℕ → PartRows → ℕ → List ℕ → List ℕ → ℕ → Type 0
PutsBorders component size rows at old new upto =
    (version : Versioned) → IsOf version component size → IsAt version component 0 rows.left rows.rest.now
    → PutsWords at upto old new (map (row_start (comp_at version.comps component).rows) (range_with_len 0 (size + 1)))

-- and their runs
abbrev pub PutsRuns : ℕ → ℕ → PartRows → ℕ → List ℕ → List ℕ → ℕ → Type 0
PutsRuns component size rows at old new upto =
    (version : Versioned) → IsOf version component size → IsAt version component 0 rows.left rows.rest.now
    → PutsWords at upto old new (flat_map row_words (comp_at version.comps component).rows)

-- a version, in which the component with that number has these cells
pub record IsWith (version : Versioned) (number : ℕ) (cells : List Cell) : Type 0 where
  pub is : IsVersion version
  pub has : HasComponent version number cells

-- the rows of the component are those that are next
abbrev pub IsNext : Versioned → ℕ → List Cell → PartRows → Type 0
IsNext version number cells rows = IsWith version number cells × IsAt version number 0 rows.left rows.rest.now

abbrev pub IsNoTable : ℕ → List Cell → PartRows → Type 0
IsNoTable number cells rows = (version : Versioned) → IsNext version number cells rows → ⊥

-- those of the next component come behind them
abbrev pub PassesTable : ℕ → List Cell → PartRows → PartRows → Type 0
PassesTable number cells old new =
    (version : Versioned) → IsNext version number cells old → IsAt version (number + 1) 0 new.left new.rest.now

-- so many words has the table of the component
abbrev pub HasTable : ℕ → List Cell → PartRows → ℕ → Type 0
HasTable number cells rows size =
    (version : Versioned) → IsNext version number cells rows → size ≡ length (table_of (comp_at version.comps number))

abbrev pub PutsTable : ℕ → List Cell → PartRows → ℕ → List ℕ → List ℕ → ℕ → Type 0
PutsTable number cells rows at old new upto =
    (version : Versioned) → IsNext version number cells rows → PutsWords at upto old new (table_of (comp_at version.comps number))

-- a version whose components have these cells
pub record HasAll (version : Versioned) (all : List (List Cell)) : Type 0 where
  pub is : IsVersion version
  pub long : length version.comps ≡ length all
  pub each : (number : ℕ) (d : List Cell) → number < length all → HasComponent version number (slice_index_or all number d)

-- what holds of each such version whose parts these words are
abbrev pub WhereParts : List (List Cell) → List ℕ → (Versioned → Type 0) → Type 0
WhereParts all words holds = (version : Versioned) → HasAll version all → AreParts version words → holds version

abbrev pub AreNoParts : List (List Cell) → List ℕ → Type 0
AreNoParts all words = WhereParts all words (λ version. ⊥)

-- so many words its tables have
abbrev pub SizesTables : List (List Cell) → List ℕ → ℕ → Type 0
SizesTables all words size = WhereParts all words (λ version. size ≡ length (flat_map table_of version.comps))

-- where its tables begin is put, if the first begins there
pub record BeginsAt (version : Versioned) (start : ℕ) : Type 0 where
  pub first : start ≡ tables_at version
  pub small : image_size version < 2 ^ 32

abbrev pub PutsStarts : List (List Cell) → ℕ → List ℕ → ℕ → List ℕ → List ℕ → ℕ → Type 0
PutsStarts all start words at old new upto =
    WhereParts all words (λ version. BeginsAt version start → PutsWords at upto old new (starts_of version))

-- and its tables
abbrev pub PutsTables : List (List Cell) → List ℕ → ℕ → List ℕ → List ℕ → ℕ → Type 0
PutsTables all words at old new upto = WhereParts all words (λ version. PutsWords at upto old new (flat_map table_of version.comps))
