-- What the calls that bake tell: of each status, what holds of the map and of the room.
use Rattle.std.specs.Prelude.{◌≡◌, ℕ, ◌+◌, ◌*◌, ◌<◌, ◌⊎◌, List, length, Option, Some, None, MatchOption, Ok, Err}
use Rattle.moves.specs.Maps.{Map}
use Rattle.cell_order.specs.declared.OrderKind.{OrderKind}
use Rattle.cell_order.specs.Orders.{kind_of}
use Rattle.map_read.specs.declared.TheConstants.{MAX_MAP_BYTES}
use Rattle.map_read.specs.declared.fault.MapFault.{MapFault}
use Rattle.map_read.specs.MapText.{map_of}
use Rattle.bake_words.specs.declared.fault.CellsFault.{CellsFault}
use Rattle.bake_words.specs.Baking.{BakesInto, NeedsRoom}
use Rattle.bake_words.specs.Cells.{HasCells, IsCellsFaultOf}
use Rattle.pathdb.specs.declared.baking.PathdbBaked.{PathdbBaked}
use Rattle.pathdb.specs.declared.status.Status.{Status}
use Rattle.pathdb.specs.declared.status.Status.TheVariants.{Done, TooSmall, NoOrder, TextTooLong, BadHeader, BadSize}
use Rattle.pathdb.specs.declared.status.Status.TheVariants.{BadRow, BadByte, MissingRows, ExtraLine, TooManyCells, WrongCount, NoMemory}

-- the fault of a map's text that a status and what is told beside it stand for
abbrev pub map_fault_of : Status → PathdbBaked → Option MapFault
map_fault_of BadHeader told = Some (MapFault.Header told.line)
map_fault_of BadSize told = Some (MapFault.Size told.line)
map_fault_of BadRow told = Some (MapFault.RowLength told.line told.expected told.found)
map_fault_of BadByte told = Some (MapFault.BadCell told.x told.y told.byte)
map_fault_of MissingRows told = Some (MapFault.MissingRows told.found)
map_fault_of ExtraLine told = Some (MapFault.Extra told.line)
map_fault_of TooManyCells told = Some (MapFault.TooManyCells told.x told.y)
map_fault_of _ told = None

-- the same of bytes that are no cells of a map with so many columns
abbrev pub cells_fault_of : ℕ → Status → PathdbBaked → Option CellsFault
cells_fault_of width BadSize told = Some CellsFault.Sides
cells_fault_of width WrongCount told = Some CellsFault.Count
cells_fault_of width BadByte told = Some (CellsFault.BadByte (told.y * width + told.x))
cells_fault_of width TooManyCells told = Some CellsFault.TooManyCells
cells_fault_of width NoMemory told = Some CellsFault.NoMemory
cells_fault_of width _ told = None

-- the image of a map of which this holds stands in the room, in the order with that number
pub record Bakes (IsGiven : Map → Type 0) (number : ℕ) (old new : List ℕ) (count : ℕ) : Type 0 where
  pub map : Map
  pub given : IsGiven map
  pub order : OrderKind
  pub is : kind_of order ≡ number
  pub into : BakesInto map order old new count

-- the room has too few words for the image of a map of which this holds, and stays as it was
pub record NeedsMore (IsGiven : Map → Type 0) (number : ℕ) (old new : List ℕ) (needed : ℕ) : Type 0 where
  pub map : Map
  pub given : IsGiven map
  pub order : OrderKind
  pub is : kind_of order ≡ number
  pub needs : NeedsRoom map order old needed
  pub kept : new ≡ old

-- what came of a bake of a map in an order
abbrev pub IsOutcome : Map → OrderKind → List ℕ → List ℕ → ℕ → Status → Type 0
IsOutcome map order old new words status =
    ((status ≡ Done) × BakesInto map order old new words)
    ⊎ (((status ≡ TooSmall) × NeedsRoom map order old words × (new ≡ old)) ⊎ ((status ≡ NoMemory) × (new ≡ old)))

-- what is told of a map that is given, or why there is none though the text or the cells are not at fault
abbrev pub SaysBaked : (Map → Type 0) → ℕ → ℕ → List ℕ → List ℕ → ℕ → Status → Type 0
SaysBaked IsGiven long number old new words Done = Bakes IsGiven number old new words
SaysBaked IsGiven long number old new words TooSmall = NeedsMore IsGiven number old new words
SaysBaked IsGiven long number old new words NoOrder = (1 < number) × (new ≡ old)
SaysBaked IsGiven long number old new words TextTooLong = (MAX_MAP_BYTES < long) × (new ≡ old)
SaysBaked IsGiven long number old new words NoMemory = new ≡ old
SaysBaked IsGiven long number old new words _ = ⊥

-- the text stands for the map
abbrev pub IsText : List ℕ → Map → Type 0
IsText text map = map_of text ≡ Ok map

-- the text is refused for that fault, and the room stays as it was
abbrev pub IsNoText : List ℕ → List ℕ → List ℕ → MapFault → Type 0
IsNoText text old new fault = (map_of text ≡ Err fault) × (new ≡ old)

-- of a bake of a text: the image, or why there is none
abbrev pub SaysBakeText : List ℕ → ℕ → List ℕ → List ℕ → PathdbBaked → Status → Type 0
SaysBakeText text number old new told status =
    MatchOption (map_fault_of status told) (SaysBaked (IsText text) (length text) number old new told.words status) (IsNoText text old new)

-- the cells are refused for that fault, and the room stays as it was
abbrev pub AreNoCells : ℕ → ℕ → List ℕ → List ℕ → List ℕ → CellsFault → Type 0
AreNoCells width height cells old new fault = IsCellsFaultOf width height cells fault × (new ≡ old)

-- of a bake of cells: the image, or why there is none
abbrev pub SaysBakeCells : ℕ → ℕ → List ℕ → ℕ → List ℕ → List ℕ → PathdbBaked → Status → Type 0
SaysBakeCells width height cells number old new told status =
    MatchOption (cells_fault_of width status told) (SaysBaked (HasCells width height cells) 0 number old new told.words status)
    (AreNoCells width height cells old new)
