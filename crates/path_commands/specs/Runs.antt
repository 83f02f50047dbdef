-- What a run of the program is about, and how it may end.
use Rattle.std.specs.Prelude.{◌≡◌, ◌⊎◌, ℕ, ◌<◌, ◌≤◌, List, length, Option, None, Some, IfSome, Ok, Err}
use Rattle.std.specs.Prelude.{String, Vec}
use Rattle.std.specs.Global.{Global}
use Rattle.wire.specs.Causes.{Rose}
use Rattle.wire.specs.Contents.{AtFiles}
use Rattle.clap.specs.Walk.{Text}
use Rattle.moves.specs.declared.Cell.{Cell}
use Rattle.moves.specs.Maps.{Map}
use Rattle.map_read.specs.declared.fault.MapFault.{MapFault}
use Rattle.map_read.specs.declared.fault.MapFault.TheVariants.{TooManyCells}
use Rattle.map_read.specs.MapText.{map_of}
use Rattle.map_read.specs.declared.TheConstants.{MAX_MAP_BYTES}
use Rattle.scen_read.specs.declared.fault.ScenFault.{ScenFault}
use Rattle.scen_read.specs.declared.scenario.ScenLine.{ScenLine}
use Rattle.scen_read.specs.declared.TheConstants.{MAX_SCEN_BYTES}
use Rattle.scen_read.specs.ScenText.{scenarios_of}
use Rattle.scen_run.specs.declared.made.Made.TheVariants.{Map as Whole, TooMany}
use Rattle.scen_run.specs.Made.{IsMade, formula_map}
use Rattle.scen_run.specs.Results.{HaveLengths}
use Rattle.path_file.specs.declared.TheConstants.{MAX_DB}
use Rattle.path_file.specs.declared.fault.DbFault.{DbFault}
use Rattle.path_file.specs.Files.{HasFile, file_of}
use Rattle.path_file.specs.Faults.{IsFirstDbFault}
use Rattle.path_replay.specs.declared.event.Event.{Event}
use Rattle.path_replay.specs.declared.TheConstants.{MAX_EVENTS_BYTES}
use Rattle.path_replay.specs.Events.{AreEventsOf, HavePasses, text_said}
use Rattle.cell_order.specs.declared.OrderKind.{OrderKind}
use Rattle.versions.specs.Databases.{Versioned, IsVersion}
use Rattle.versions.specs.Answers.{IsAnswer, refused}
use Rattle.path_commands.specs.declared.request.Sides.{Sides}
use Rattle.path_commands.specs.declared.status.Status.{Status}
use Rattle.path_commands.specs.declared.status.Status.TheVariants as status
use Rattle.path_commands.specs.declared.task.Task.{Task}
use Rattle.path_commands.specs.declared.task.Task.TheVariants as task
use Rattle.path_commands.specs.Words.{texts_of}
use Rattle.path_commands.specs.Requests.{Aim, Asked, Source, by_formula, check, export, in_file, made, near, nearpath, of_map, path, replay, request_of, scen, verify}
use Rattle.path_commands.specs.Texts.{check_text, version_text}
use Rattle.path_commands.specs.Queries.{TellsAnswer, TellsReplay, TellsResults, TellsTotals}
use Rattle.path_commands.specs.NearQueries.{TellsNear, TellsNearAnswer}
use Rattle.path_commands.specs.Statuses.{status_text}

-- a file in a run: its bytes, where they are told, and how often reading it has failed, before the
-- run and after it
pub record RunFile : Type 0 where
  pub held : Option Text
  pub before : ℕ
  pub after : ℕ

-- the file of this name
abbrev pub file_over : AtFiles → AtFiles → Text → RunFile
file_over old new name =
    record { held = old.content name; before = old.faults name; after = new.faults name }

-- a run: the words of its command line, and the file of each name
pub record Run : Type 0 where
  pub words : List Text
  pub file : Text → RunFile

-- the run with these words, over files that were such before it and such after it
abbrev pub run_over : List (String Global) → AtFiles → AtFiles → Run
run_over words old new = record { words = texts_of words; file = file_over old new }

-- ---- what was asked for

-- the words ask for that
abbrev pub Asks : Run → Asked → Type 0
Asks run asked = request_of run.words ≡ Some asked

-- told bytes are these, and not more than there may be
abbrev pub HoldsBytes : RunFile → ℕ → List ℕ → Type 0
HoldsBytes file limit bytes = IfSome file.held (λ told. (length told ≤ limit) × (told ≡ bytes))

-- told bytes are not too many, and stand for this map
abbrev pub HoldsMap : RunFile → Map → Type 0
HoldsMap file map =
    IfSome file.held (λ bytes. (length bytes ≤ MAX_MAP_BYTES) × (map_of bytes ≡ Ok map))

-- told bytes are not too many, and stand for no map for that reason
abbrev pub HoldsNoMap : RunFile → MapFault → Type 0
HoldsNoMap file fault =
    IfSome file.held (λ bytes. (length bytes ≤ MAX_MAP_BYTES) × (map_of bytes ≡ Err fault))

-- told bytes are not too many, and stand for these scenarios
abbrev pub HoldsScenarios : RunFile → List ScenLine → Type 0
HoldsScenarios file scenarios =
    IfSome file.held
    (λ bytes. (length bytes ≤ MAX_SCEN_BYTES) × (scenarios_of bytes ≡ Ok scenarios))

-- told bytes are not too many, and stand for no scenarios for that reason
abbrev pub HoldsNoScenarios : RunFile → ScenFault → Type 0
HoldsNoScenarios file fault =
    IfSome file.held
    (λ bytes. (length bytes ≤ MAX_SCEN_BYTES) × (scenarios_of bytes ≡ Err fault))

-- told bytes are not too many, and stand for these events
abbrev pub HoldsEvents : RunFile → List Event → Type 0
HoldsEvents file events =
    IfSome file.held (λ bytes. (length bytes ≤ MAX_EVENTS_BYTES) × AreEventsOf bytes events)

-- told bytes are not too many, and that line is the first that is neither blank nor an event
abbrev pub HoldsNoEvents : RunFile → ℕ → Type 0
HoldsNoEvents file line =
    IfSome file.held (λ bytes. (length bytes ≤ MAX_EVENTS_BYTES) × (text_said bytes ≡ Err line))

-- told bytes are more than there may be
abbrev pub IsTooLong : RunFile → ℕ → ℕ → Type 0
IsTooLong file limit told = (told ≡ limit) × IfSome file.held (λ bytes. limit < length bytes)

-- reading the file has failed in the run
abbrev pub HasFailed : RunFile → Type 0
HasFailed file = Rose file.before file.after

-- ---- the map that is asked about, and its first version

-- the map that is made of two sides and a seed
abbrev pub map_made : Sides → ℕ → Map
map_made sides seed = formula_map sides.width sides.height seed

-- the map that a source gives
abbrev pub GivesMap : (Text → RunFile) → Source → Map → Type 0
GivesMap file (in_file name) map = HoldsMap (file name) map
GivesMap file (by_formula sides seed) map = IsMade (map_made sides seed) (Whole map)

-- the task is that of the scenarios in a file
pub record GivesScenarios (file : RunFile) (asked : Task) : Type 0 where
  pub scenarios : Vec ScenLine Global
  pub is : asked ≡ task.Scen scenarios
  pub holds : HoldsScenarios file scenarios.items

-- the task is that of the events in a file
pub record GivesEvents (file : RunFile) (asked : Task) : Type 0 where
  pub events : List Event
  pub is : asked ≡ task.Replay events
  pub holds : HoldsEvents file events

-- what is done with the first version of a map, with what is read of a second file
abbrev pub GivesTask : (Text → RunFile) → Aim → Task → Type 0
GivesTask file (path start goal) given = given ≡ task.Path start goal
GivesTask file check given = given ≡ task.Check
GivesTask file near given = given ≡ task.Near
GivesTask file (nearpath start goal) given = given ≡ task.NearPath start goal
GivesTask file (scen scenarios) given = GivesScenarios (file scenarios) given
GivesTask file (made seed) given = given ≡ task.Made seed
GivesTask file (replay events) given = GivesEvents (file events) given
GivesTask file export given = given ≡ task.Export

-- the first version of a map in an order: the one that comes after no edit
pub record IsFirstVersion (map : Map) (order : OrderKind) (version : Versioned) : Type 0 where
  pub same_map : version.map ≡ map
  pub unedited : version.prefix ≡ 0
  pub same_order : version.order ≡ order
  pub whole : IsVersion version

-- ---- the answer

-- the text answers what was asked of the version
abbrev pub IsAnswerOn : Versioned → Task → List ℕ → Type 0
IsAnswerOn version (task.Path start goal) text = TellsAnswer version start goal text
IsAnswerOn version task.Check text = text ≡ check_text version
IsAnswerOn version task.Near text = TellsNear version text
IsAnswerOn version (task.NearPath start goal) text = TellsNearAnswer version start goal text
IsAnswerOn version (task.Scen lines) text = TellsResults version lines.items text
IsAnswerOn version (task.Made seed) text = TellsTotals version seed text
IsAnswerOn version (task.Replay events) text = TellsReplay version events text
IsAnswerOn version task.Export text = text ≡ file_of version

-- the text tells what the first version of a map in that order answers, of which there is just one
abbrev pub TellsFirstAnswer : Map → OrderKind → Cell → Cell → List ℕ → Type 0
TellsFirstAnswer map order start goal text =
    (version : Versioned) → IsFirstVersion map order version → TellsAnswer version start goal text

-- the text is what the first version of a map answers
pub record IsFirstAnswer (map : Map) (order : OrderKind) (task : Task) (text : List ℕ) : Type 0 where
  pub version : Versioned
  pub first : IsFirstVersion map order version
  pub answers : IsAnswerOn version task text

-- the source gives a map, and the text is what its first version answers
pub record AnswersOfMap (file : Text → RunFile) (source : Source) (aim : Aim) (order : OrderKind)
    (text : List ℕ) : Type 0 where
  pub map : Map
  pub gives : GivesMap file source map
  pub task : Task
  pub does : GivesTask file aim task
  pub first : IsFirstAnswer map order task text

-- told bytes are the file of this version, and not more than there may be
abbrev pub HoldsVersion : RunFile → Versioned → Type 0
HoldsVersion file version =
    HasFile version × IfSome file.held (λ bytes. (length bytes ≤ MAX_DB) × (bytes ≡ file_of version))

-- told bytes are not too many, and this is the first fault that keeps them from being the file of a version
abbrev pub HoldsNoVersion : RunFile → DbFault → Type 0
HoldsNoVersion file fault =
    IfSome file.held (λ bytes. (length bytes ≤ MAX_DB) × IsFirstDbFault bytes fault)

-- the file is that of a version, and the text tells its size
pub record TellsVersion (file : RunFile) (text : List ℕ) : Type 0 where
  pub version : Versioned
  pub holds : HoldsVersion file version
  pub told : text ≡ version_text version

-- the text answers what was asked for; sessions and what is asked of a server have no such answer
abbrev pub Answers : (Text → RunFile) → Asked → List ℕ → Type 0
Answers file (of_map source aim build) text = AnswersOfMap file source aim build.order text
Answers file (verify db) text = TellsVersion (file db) text
Answers file _ text = ⊥

-- the text answers what the words ask for
pub record IsAnswerTo (run : Run) (text : List ℕ) : Type 0 where
  pub asked : Asked
  pub asks : Asks run asked
  pub answers : Answers run.file asked text

-- ---- the causes of the other statuses. Want of memory alone is free.

-- why the bytes of a file, of which there may be this many, are not read
abbrev pub IsFileCause : RunFile → ℕ → Status → Type 0
IsFileCause file limit (status.TooLong told) = IsTooLong file limit told
IsFileCause file limit status.ReadFault = HasFailed file
IsFileCause file limit status.NoMemory = Unit {0}
IsFileCause file limit _ = ⊥

-- why a file gives no map
abbrev pub IsMapFileCause : RunFile → Status → Type 0
IsMapFileCause file (status.Map fault) = HoldsNoMap file fault
IsMapFileCause file cause = IsFileCause file MAX_MAP_BYTES cause

-- why the map of a formula is none that is searched: it has too many passable cells
abbrev pub IsMadeCause : Map → Status → Type 0
IsMadeCause map (status.Map (TooManyCells x y)) = IsMade map (TooMany x y)
IsMadeCause map status.NoMemory = Unit {0}
IsMadeCause map _ = ⊥

-- why a file gives no scenarios
abbrev pub IsScenFileCause : RunFile → Status → Type 0
IsScenFileCause file (status.Scen fault) = HoldsNoScenarios file fault
IsScenFileCause file cause = IsFileCause file MAX_SCEN_BYTES cause

-- why a file gives no events
abbrev pub IsEventsFileCause : RunFile → Status → Type 0
IsEventsFileCause file (status.Events line) = HoldsNoEvents file line
IsEventsFileCause file cause = IsFileCause file MAX_EVENTS_BYTES cause

-- why a file gives no version
abbrev pub IsDbFileCause : RunFile → Status → Type 0
IsDbFileCause file (status.Db fault) = HoldsNoVersion file fault
IsDbFileCause file cause = IsFileCause file MAX_DB cause

-- why a source gives no map
abbrev pub GivesNoMap : (Text → RunFile) → Source → Status → Type 0
GivesNoMap file (in_file name) cause = IsMapFileCause (file name) cause
GivesNoMap file (by_formula sides seed) cause = IsMadeCause (map_made sides seed) cause

-- why nothing is done with a map: another file is missing or refused
abbrev pub GivesNoTask : (Text → RunFile) → Aim → Status → Type 0
GivesNoTask file (scen scenarios) cause = IsScenFileCause (file scenarios) cause
GivesNoTask file (replay events) cause = IsEventsFileCause (file events) cause
GivesNoTask file _ cause = ⊥

-- why a query of a version has no text: it is refused
abbrev pub IsPathCause : Versioned → Cell → Cell → Status → Type 0
IsPathCause version start goal (status.Query why) = IsAnswer version start goal (refused why)
IsPathCause version start goal status.NoMemory = Unit {0}
IsPathCause version start goal _ = ⊥

-- why what was asked of a version has no answer
abbrev pub IsVersionCause : Versioned → Task → Status → Type 0
IsVersionCause version (task.Path start goal) cause = IsPathCause version start goal cause
IsVersionCause version (task.NearPath start goal) cause = IsPathCause version start goal cause
IsVersionCause version _ cause = cause ≡ status.NoMemory

-- why a query of the first version of a map in that order has no text
abbrev pub IsFirstPathCause : Map → OrderKind → Cell → Cell → Status → Type 0
IsFirstPathCause map order start goal cause =
    (version : Versioned) → IsFirstVersion map order version → IsPathCause version start goal cause

-- why what was asked of the first version of a map has no answer
pub record IsFirstCause (map : Map) (order : OrderKind) (task : Task) (cause : Status) : Type 0 where
  pub version : Versioned
  pub first : IsFirstVersion map order version
  pub fails : IsVersionCause version task cause

-- there is a map, and another file is not what it has to be
pub record FailsByTask (file : Text → RunFile) (source : Source) (aim : Aim) (cause : Status) : Type 0 where
  pub map : Map
  pub gives : GivesMap file source map
  pub fails : GivesNoTask file aim cause

-- there is a map, and its first version has no answer
pub record FailsByVersion (file : Text → RunFile) (source : Source) (aim : Aim) (order : OrderKind)
    (cause : Status) : Type 0 where
  pub map : Map
  pub gives : GivesMap file source map
  pub task : Task
  pub does : GivesTask file aim task
  pub first : IsFirstCause map order task cause

-- why there is no answer to what was asked of a map: it, or another file, or its first version
abbrev pub FailsOfMap : (Text → RunFile) → Source → Aim → OrderKind → Status → Type 0
FailsOfMap file source aim order cause = GivesNoMap file source cause
    ⊎ (FailsByTask file source aim cause ⊎ FailsByVersion file source aim order cause)

-- why there is no answer to what was asked for; sessions and what is asked of a server end in ways of their own
abbrev pub Fails : (Text → RunFile) → Asked → Status → Type 0
Fails file (of_map source aim build) cause = FailsOfMap file source aim build.order cause
Fails file (verify db) cause = IsDbFileCause (file db) cause
Fails file _ cause = ⊥

-- the words ask for nothing, or there was no memory to read them
abbrev pub IsWordsCause : List Text → Status → Type 0
IsWordsCause words status.Usage = request_of words ≡ None
IsWordsCause words status.NoMemory = Unit {0}
IsWordsCause words _ = ⊥

-- the words ask for something that has no answer
pub record FailsAsked (run : Run) (cause : Status) : Type 0 where
  pub asked : Asked
  pub asks : Asks run asked
  pub fails : Fails run.file asked cause

-- the cause of a status other than `Done`
abbrev pub IsCause : Run → Status → Type 0
IsCause run cause = IsWordsCause run.words cause ⊎ FailsAsked run cause

-- ---- what a task needs

-- scenarios have lengths that may be compared, and events have passes of a replay
abbrev pub MayBeDone : Task → Type 0
MayBeDone (task.Scen lines) = HaveLengths lines.items
MayBeDone (task.Replay events) = HavePasses events
MayBeDone _ = Unit {0}

-- the task is done by a version alone: a path needs less, and a near version has more
abbrev pub NeedsVersion : Task → Type 0
NeedsVersion (task.Path start goal) = ⊥
NeedsVersion task.Near = ⊥
NeedsVersion (task.NearPath start goal) = ⊥
NeedsVersion task.Export = ⊥
NeedsVersion _ = Unit {0}

-- ---- how a run ends whose answer is printed

-- the answer is the text of `Done`
pub record IsDoneBy (run : Run) (ended : Status) (text : List ℕ) : Type 0 where
  pub done : ended ≡ status.Done
  pub answer : IsAnswerTo run text

-- a status that has its cause has its line for its text
pub record IsRefusedBy (run : Run) (ended : Status) (text : List ℕ) : Type 0 where
  pub cause : IsCause run ended
  pub line : text ≡ status_text ended

-- the status and the text are right
abbrev pub IsRight : Run → Status → List ℕ → Type 0
IsRight run ended text = IsDoneBy run ended text ⊎ IsRefusedBy run ended text
