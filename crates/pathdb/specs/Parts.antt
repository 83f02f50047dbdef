-- What the calls that bake in parts tell: of each status, what holds of the map and of the room.
use Rattle.std.specs.Prelude.{◌≡◌, ℕ, ◌<◌, ◌≤◌, ◌⊎◌, List, length, take, drop, slice_index, MatchOption}
use Rattle.cell_order.specs.Orders.{kind_of}
use Rattle.versions.specs.Databases.{Versioned, comp_at}
use Rattle.path_image.specs.Reading.{LeadsInside}
use Rattle.bake_words.specs.Cells.{HasCells, IsCellsFaultOf}
use Rattle.bake_parts.specs.declared.sources.Sources.{Sources}
use Rattle.bake_parts.specs.declared.fault.JoinFault.{JoinFault}
use Rattle.bake_parts.specs.Parts.{IsFirstVersion}
use Rattle.bake_parts.specs.Plans.{Planned, CountsComponents, WritesPart, AreNoSources}
use Rattle.bake_parts.specs.Faults.{IsTooSmallFor}
use Rattle.bake_parts.specs.Joins.{AreParts, JoinsParts, IsTooSmallToJoin, IsJoinFaultOf}
use Rattle.pathdb.specs.declared.baking.PathdbBaked.{PathdbBaked}
use Rattle.pathdb.specs.declared.parts.PathdbSources.{PathdbSources}
use Rattle.pathdb.specs.declared.status.Status.{Status}
use Rattle.pathdb.specs.declared.status.Status.TheVariants.{Done, TooSmall, NoOrder, NoMemory, NoSources, BrokenPart}
use Rattle.pathdb.specs.Bakes.{cells_fault_of}

-- sources of C
abbrev pub sources_of : PathdbSources → Sources
sources_of sources = record { component = sources.component; first = sources.first; count = sources.count }

-- the map with these cells, and the order with that number
pub record IsPlanOf (width height : ℕ) (cells : List ℕ) (number : ℕ) (plan : Planned) : Type 0 where
  pub given : HasCells width height cells plan.on
  pub is : kind_of plan.order ≡ number

-- why there is none
abbrev pub IsNoPlan : ℕ → ℕ → List ℕ → ℕ → PathdbBaked → Status → Type 0
IsNoPlan width height cells number told status =
    MatchOption (cells_fault_of width status told) ((status ≡ NoOrder) × (1 < number)) (IsCellsFaultOf width height cells)

-- this holds of the map with these cells and of the order with that number
pub record OfPlan (width height : ℕ) (cells : List ℕ) (number : ℕ) (Holds : Planned → Type 0) : Type 0 where
  pub plan : Planned
  pub is : IsPlanOf width height cells number plan
  pub holds : Holds plan

-- either there is no such map or order, or this holds of the two
abbrev pub SaysOfPlan : ℕ → ℕ → List ℕ → ℕ → (Planned → Status → Type 0) → PathdbBaked → Status → Type 0
SaysOfPlan width height cells number Holds told status =
    IsNoPlan width height cells number told status ⊎ OfPlan width height cells number (λ plan. Holds plan status)

-- so many cells has the component with that number, where there is one
abbrev pub HasSize : Planned → ℕ → ℕ → Type 0
HasSize plan number size =
    (version : Versioned) → IsFirstVersion plan.on plan.order version → number < length version.comps
    → size ≡ length (comp_at version.comps number).cells

-- how many cells each component has stands at the front of the room, and what lies behind is as it was
pub record WritesSizes (plan : Planned) (old new : List ℕ) (count : ℕ) : Type 0 where
  pub counts : CountsComponents plan count
  pub fits : count ≤ length old
  pub sizes : (number : ℕ) → number < count → HasSize plan number (slice_index new number)
  pub rest : drop count new ≡ drop count old

-- the room has too few places for so many components, and stays as it was
pub record NeedsPlaces (plan : Planned) (old new : List ℕ) (needed : ℕ) : Type 0 where
  pub counts : CountsComponents plan needed
  pub small : length old < needed
  pub kept : new ≡ old

-- what came of the sizes of the components
abbrev pub AreSizesTold : List ℕ → List ℕ → ℕ → Planned → Status → Type 0
AreSizesTold old new words plan Done = WritesSizes plan old new words
AreSizesTold old new words plan TooSmall = NeedsPlaces plan old new words
AreSizesTold old new words plan _ = ⊥

-- of the components of a map: their sizes, or why there are none
abbrev pub SaysComponents : ℕ → ℕ → List ℕ → ℕ → List ℕ → List ℕ → PathdbBaked → Status → Type 0
SaysComponents width height cells number old new told =
    SaysOfPlan width height cells number (AreSizesTold old new told.words) told

-- what came of a part
abbrev pub IsPartTold : Sources → List ℕ → List ℕ → ℕ → Planned → Status → Type 0
IsPartTold sources old new words plan Done = WritesPart plan sources old new words
IsPartTold sources old new words plan TooSmall = IsTooSmallFor plan sources (length old) words
IsPartTold sources old new words plan NoSources = AreNoSources plan sources
IsPartTold sources old new words plan NoMemory = Unit {0}
IsPartTold sources old new words plan _ = ⊥

-- of a part: its words, or why there are none
abbrev pub SaysPart : ℕ → ℕ → List ℕ → ℕ → Sources → List ℕ → List ℕ → PathdbBaked → Status → Type 0
SaysPart width height cells number sources old new told =
    SaysOfPlan width height cells number (IsPartTold sources old new told.words) told

-- where the parts are those of the map, its image stands at the front of the room, and passes the look
pub record JoinsImage (plan : Planned) (parts old new : List ℕ) (count : ℕ) : Type 0 where
  pub fits : count ≤ length old
  pub image : JoinsParts plan parts old new count
  pub passes : (version : Versioned) → IsFirstVersion plan.on plan.order version → AreParts version parts
      → LeadsInside (take count new)

-- what came of the parts
abbrev pub AreJoined : List ℕ → List ℕ → List ℕ → PathdbBaked → Planned → Status → Type 0
AreJoined parts old new told plan Done = JoinsImage plan parts old new told.words
AreJoined parts old new told plan TooSmall = IsTooSmallToJoin plan parts (length old) told.words × (new ≡ old)
AreJoined parts old new told plan BrokenPart = IsJoinFaultOf plan parts (length old) (JoinFault.Broken told.found)
AreJoined parts old new told plan NoMemory = Unit {0}
AreJoined parts old new told plan _ = ⊥

-- of parts that are joined: the image, or why there is none
abbrev pub SaysJoin : ℕ → ℕ → List ℕ → ℕ → List ℕ → List ℕ → List ℕ → PathdbBaked → Status → Type 0
SaysJoin width height cells number parts old new told = SaysOfPlan width height cells number (AreJoined parts old new told) told
