-- How calls end: each status with its number for C, and what of the libraries' answers it stands for.
use Rattle.std.specs.Prelude.{◌≡◌, ℕ, ◌-◌, List, [], ◌∷◌, ◌++◌, codes, length, take, Option, Some, None, MatchOption}
use Rattle.versions.specs.declared.query.End.TheVariants.{Start, Goal}
use Rattle.versions.specs.declared.query.QueryRefusal.{QueryRefusal}
use Rattle.versions.specs.declared.query.QueryRefusal.TheVariants.{Outside, Blocked}
use Rattle.path_image.specs.declared.checking.ImageFault.{ImageFault}
use Rattle.path_image.specs.declared.checking.ImageFault.TheVariants.{Magic, Form, Length, Sides, Lists, Table, Home}
use Rattle.path_image.specs.Answers.{overwritten}
use Rattle.pathdb.specs.declared.status.Status.{Status}
use Rattle.pathdb.specs.declared.status.Status.TheVariants.{Done, Arrived, Unreachable, OutsideStart, BlockedStart, OutsideGoal, BlockedGoal, TooSmall, Broken}
use Rattle.pathdb.specs.declared.status.Status.TheVariants.{NoImage, OtherForm, WrongLength, WrongSides, WrongLists, WrongTable, WrongHome}
use Rattle.pathdb.specs.declared.status.Status.TheVariants.{NoOrder, TextTooLong, BadHeader, BadSize, BadRow, BadByte, MissingRows, ExtraLine, TooManyCells, WrongCount, NoMemory, NoSources, BrokenPart}
use Rattle.pathdb.specs.declared.status.Status.TheVariants.{Stale, More, WrongBits, FewWords}

-- the number of a status; those from 29 to 40 are kept for later calls
abbrev pub status_number : Status → ℕ
status_number Done = 0
status_number Arrived = 1
status_number Unreachable = 2
status_number OutsideStart = 3
status_number BlockedStart = 4
status_number OutsideGoal = 5
status_number BlockedGoal = 6
status_number TooSmall = 7
status_number Broken = 8
status_number NoImage = 9
status_number OtherForm = 10
status_number WrongLength = 11
status_number WrongSides = 12
status_number WrongLists = 13
status_number WrongTable = 14
status_number WrongHome = 15
status_number NoOrder = 16
status_number TextTooLong = 17
status_number BadHeader = 18
status_number BadSize = 19
status_number BadRow = 20
status_number BadByte = 21
status_number MissingRows = 22
status_number ExtraLine = 23
status_number TooManyCells = 24
status_number WrongCount = 25
status_number NoMemory = 26
status_number NoSources = 27
status_number BrokenPart = 28
status_number Stale = 41
status_number More = 42
status_number WrongBits = 43
status_number FewWords = 44

-- no status has the number
abbrev pub IsNoNumber : ℕ → Type 0
IsNoNumber number = (status : Status) → status_number status ≡ number → ⊥

-- no two statuses have one number
abbrev pub NumbersAreApart : Type 0
NumbersAreApart = (a b : Status) → status_number a ≡ status_number b → a ≡ b

-- a status in words
abbrev pub status_text : Status → List ℕ
status_text Done = codes "done"
status_text Arrived = codes "arrived"
status_text Unreachable = codes "unreachable"
status_text OutsideStart = codes "outside start"
status_text BlockedStart = codes "blocked start"
status_text OutsideGoal = codes "outside goal"
status_text BlockedGoal = codes "blocked goal"
status_text TooSmall = codes "room for too few"
status_text Broken = codes "broken image"
status_text NoImage = codes "no image"
status_text OtherForm = codes "an image of another form"
status_text WrongLength = codes "more words or fewer than the image says"
status_text WrongSides = codes "sides that no map has"
status_text WrongLists = codes "too few words for the cells"
status_text WrongTable = codes "wrong table of a component"
status_text WrongHome = codes "wrong word of a cell"
status_text NoOrder = codes "no order has this number"
status_text TextTooLong = codes "map text too long"
status_text BadHeader = codes "wrong line of a map's header"
status_text BadSize = codes "sides that no map may have"
status_text BadRow = codes "row of another length"
status_text BadByte = codes "byte that stands for no cell"
status_text MissingRows = codes "too few rows"
status_text ExtraLine = codes "line behind the rows"
status_text TooManyCells = codes "too many passable cells"
status_text WrongCount = codes "more cells or fewer than the sides say"
status_text NoMemory = codes "out of memory"
status_text NoSources = codes "no such sources"
status_text BrokenPart = codes "broken part"
status_text Stale = codes "the told path is not free"
status_text More = codes "the search goes on"
status_text WrongBits = codes "not a bit for each cell"
status_text FewWords = codes "too few words for a search"

-- the refusal of a query that a status stands for
abbrev pub refusal_of : Status → Option QueryRefusal
refusal_of OutsideStart = Some (Outside Start)
refusal_of BlockedStart = Some (Blocked Start)
refusal_of OutsideGoal = Some (Outside Goal)
refusal_of BlockedGoal = Some (Blocked Goal)
refusal_of _ = None

-- the part of an image that a status and a number say is wrong
abbrev pub fault_of : Status → ℕ → Option ImageFault
fault_of NoImage number = Some Magic
fault_of OtherForm number = Some Form
fault_of WrongLength number = Some Length
fault_of WrongSides number = Some Sides
fault_of WrongLists number = Some Lists
fault_of WrongTable number = Some (Table number)
fault_of WrongHome number = Some (Home number)
fault_of _ number = None

-- the text of a status, and that of a number which is none
abbrev pub text_or_none : Option Status → List ℕ
text_or_none (Some status) = status_text status
text_or_none None = codes "no status"

-- what a number means in words: the text of the status that has it, or that none has
pub record Means (number : ℕ) (text : List ℕ) : Type 0 where
  pub found : Option Status
  pub is : MatchOption found (IsNoNumber number) (λ status. status_number status ≡ number)
  pub says : text ≡ text_or_none found

-- a text and a byte 0 behind it stand in a room, as far as it reaches, and the text is so long
pub record WritesText (text : List ℕ) (old new : List ℕ) (count : ℕ) : Type 0 where
  pub long : count ≡ length text
  pub room : new ≡ overwritten old (take (length old - 1) text ++ 0 ∷ [])

-- what a number means is written
pub record WritesMeaning (number : ℕ) (old new : List ℕ) (count : ℕ) : Type 0 where
  pub text : List ℕ
  pub means : Means number text
  pub writes : WritesText text old new count
