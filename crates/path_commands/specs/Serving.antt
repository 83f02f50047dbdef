-- A board that is served at the doors of a house, what is put of it, and how it ends.
use Rattle.std.specs.Prelude.{◌≡◌, ◌⊎◌, ℕ, ◌+◌, ◌<◌, ◌≤◌, Bool, true, false, List, [], ◌∷◌, ◌++◌, All, codes, cond, length, Option}
use Rattle.std.specs.Fmt.{decimal}
use Rattle.std.specs.Io.KnownBytes.{Appends}
use Rattle.wire.specs.Causes.{Rose}
use Rattle.wire.specs.Contents.{PutsPrefix}
use Rattle.wire.specs.Houses.{AtHouse, HasLentDoors, IsUnknocked, TellsPort, with_doors_back, with_doors_lent}
use Rattle.wire.specs.Knocks.{AtDoor}
use Rattle.wire.specs.Rings.{AtEar}
use Rattle.wire.specs.declared.house.DoorsAsked.{DoorsAsked}
use Rattle.wire.specs.declared.house.HouseError.{HouseError}
use Rattle.wire.specs.declared.house.HouseError.TheVariants as refusal
use Rattle.path_core.specs.declared.entry.Entry.{Entry}
use Rattle.path_core.specs.Boards.{Boarded}
use Rattle.path_core.specs.Histories.{accepted_count, published_count, published_prefix, IsLegal}
use Rattle.path_core.specs.Passes.{pass_of}
use Rattle.session.specs.declared.boards.TheConstants.{MAX_DOORS}
use Rattle.session.specs.declared.builder.BuildTotals.{BuildTotals}
use Rattle.session.specs.ServedBoards.{AreServed, FailedSo, IsBuiltBy}
use Rattle.path_commands.specs.declared.status.Status.{Status}
use Rattle.path_commands.specs.declared.status.Status.TheVariants as status
use Rattle.path_commands.specs.Statuses.{status_text}
use Rattle.cell_order.specs.declared.OrderKind.{OrderKind}
use Rattle.path_commands.specs.Asks.{RunHouse}
use Rattle.path_commands.specs.Runs.{HasFailed, IsMapFileCause, RunFile}
use Rattle.path_commands.specs.Talks.{IsFirstBoard}
use Rattle.path_commands.specs.Texts.{line}
use Rattle.path_commands.specs.Words.{AreWorkers}

-- ---- the texts

-- what is put before the first knock
abbrev pub serving_text : ℕ → List ℕ
serving_text port = line (codes "serving " ++ decimal port)

-- what is put of the history of a board that was served
abbrev pub history_text : List Entry → List ℕ
history_text history =
    line (codes "accepted " ++ decimal (accepted_count history))
    ++ line (codes "published " ++ decimal (published_count history))
    ++ line (codes "version " ++ decimal (published_prefix history))

-- that, and the line of a fault after it where a knock failed
abbrev pub closing_text : List Entry → Bool → List ℕ
closing_text history failed =
    history_text history ++ cond failed (status_text status.ReadFault) []

-- the status that goes with it
abbrev pub closing_status : Bool → Status
closing_status failed = cond failed status.ReadFault status.Done

-- ---- what was put

-- the bytes grew by the whole text, and the run ends as told
pub record PutsWhole (before after : Option (List ℕ)) (text : List ℕ) (told ended : Status) : Type 0 where
  pub is : ended ≡ told
  pub put : Appends before after text

-- the bytes grew by a first part of the text, less than the whole, and the run ends with that fault
pub record PutsPart (before after : Option (List ℕ)) (text : List ℕ) (ended : Status) : Type 0 where
  pub is : ended ≡ status.WriteFault
  pub put : PutsPrefix before after text

-- either of the two
abbrev pub Puts : Option (List ℕ) → Option (List ℕ) → List ℕ → Status → Status → Type 0
Puts before after text told ended =
    PutsWhole before after text told ended ⊎ PutsPart before after text ended

-- the line of this status was put
abbrev pub PutsLine : Option (List ℕ) → Option (List ℕ) → Status → Status → Type 0
PutsLine before after told ended = Puts before after (status_text told) told ended

-- the line of this status was printed, or that of `NoMemory`
abbrev pub PutsCause : Option (List ℕ) → Option (List ℕ) → Status → Status → Type 0
PutsCause before after told ended =
    PutsLine before after told ended ⊎ PutsLine before after status.NoMemory ended

-- the text that stands before all else could not be made, or the output did not take it
abbrev pub FailsToBegin : Option (List ℕ) → Option (List ℕ) → List ℕ → Status → Type 0
FailsToBegin before after first ended =
    PutsPart before after first ended ⊎ PutsLine before after status.NoMemory ended

-- the last lines were put, or there was no memory for them
abbrev pub PutsClosing : Option (List ℕ) → Option (List ℕ) → List Entry → Bool → Status → Type 0
PutsClosing before after history failed ended =
    Puts before after (closing_text history failed) (closing_status failed) ended
    ⊎ PutsLine before after status.NoMemory ended

-- ---- the ear

-- an ear in a run: what is known of it before the run and after it
pub record RunEar : Type 0 where
  pub before : AtEar
  pub after : AtEar

-- the ear that was such before the run and such after it
abbrev pub ear_over : AtEar → AtEar → RunEar
ear_over before after = record { before = before; after = after }

-- no ring was heard, and not that the bell was shut
pub record IsUnrung (ear : RunEar) : Type 0 where
  pub rung : ear.after.rung ≡ ear.before.rung
  pub unshut : ear.after.over ≡ false

-- ---- how a board is served at doors that are open

-- what has to hold before: the board has no entries yet; the house has lent the doors, at which nobody has
-- knocked; they and the workers are as many as there may be; and no bell was shut
pub record CanBeServed {D C : Type 0} (at : D → AtDoor) (board : Boarded) (doors : List D) (workers : ℕ)
    (house : AtHouse D C) (ear : AtEar) : Type 0 where
  pub unedited : board.history ≡ []
  pub some : 0 < length doors
  pub few : length doors ≤ MAX_DOORS
  pub unknocked : All (λ door. IsUnknocked (at door)) doors
  pub lent : HasLentDoors house.lent (length doors)
  pub hands : AreWorkers workers
  pub waiting : ear.over ≡ false

-- the board was served at these doors, and was such in the end; its last pass built at each ring until the
-- bell was shut
pub record IsServedAt {D C : Type 0} (house : RunHouse D C) (ear : RunEar) (board : Boarded)
    (doors doors_after : List D) (last : Boarded)
    (builds : BuildTotals) (failed : Bool) : Type 0 where
  pub same_start : last.start ≡ board.start
  pub same_order : last.order ≡ board.order
  pub same_room : last.room ≡ board.room
  pub legal : IsLegal last.start last.history
  pub named : All (λ entry. pass_of entry < length doors + 1) last.history
  pub served : AreServed house.door board doors doors_after last.history
  pub built : IsBuiltBy board (length doors) builds ear.before.rung ear.after.rung last.history
  pub how : FailedSo house.door failed doors doors_after last.history
  pub over : ear.after.over ≡ true

-- it was served at these doors, with that many builds of each kind
abbrev pub IsServedSo : {D C : Type 0} → RunHouse D C → RunEar → Boarded → List D → List D → Boarded → Bool → Type 0
IsServedSo house ear board doors doors_after last failed =
    (builds : BuildTotals) × IsServedAt house ear board doors doors_after last builds failed

-- A board was served, as `served` says of its doors as their loops left them, of the board in the end and of whether a knock
-- failed. The doors were handed back, and its last lines were put.
pub record ServesBoard {D C : Type 0} (house : RunHouse D C) (served : List D → Boarded → Bool → Type 0)
    (before after : Option (List ℕ)) (ended : Status) : Type 0 where
  pub doors_after : List D
  pub last : Boarded
  pub failed : Bool
  pub so : served doors_after last failed
  pub back : house.after.lent ≡ with_doors_back house.before.lent doors_after
  pub put : PutsClosing before after last.history failed ended

-- there was no memory to serve it: the doors were handed back as they were, and the line of that was put
pub record LeavesBoard {D C : Type 0} (house : RunHouse D C) (ear : RunEar) (doors : List D)
    (before after : Option (List ℕ)) (ended : Status) : Type 0 where
  pub back : house.after.lent ≡ with_doors_back house.before.lent doors
  pub heard : IsUnrung ear
  pub put : PutsLine before after status.NoMemory ended

module _ {D C : Type 0} (house : RunHouse D C) (ear : RunEar) (served : List D → Boarded → Bool → Type 0)
    (doors : List D) where
  -- either of the two
  abbrev pub EndsBegun : Option (List ℕ) → Option (List ℕ) → Status → Type 0
  EndsBegun before after ended =
      ServesBoard house served before after ended ⊎ LeavesBoard house ear doors before after ended

  -- The first text was put. What is put then follows it.
  pub record Begins (first : List ℕ) (before after : Option (List ℕ)) (ended : Status) : Type 0 where
    pub begun : Option (List ℕ)
    pub put : Appends before begun first
    pub ends : EndsBegun begun after ended

  -- The first text was not put: no door was served, and the doors were handed back as they were.
  pub record FailsAtOnce (first : List ℕ) (before after : Option (List ℕ)) (ended : Status) : Type 0 where
    pub back : house.after.lent ≡ with_doors_back house.before.lent doors
    pub heard : IsUnrung ear
    pub put : FailsToBegin before after first ended

  -- either of the two
  abbrev pub EndsAt : List ℕ → Option (List ℕ) → Option (List ℕ) → Status → Type 0
  EndsAt first before after ended = Begins first before after ended ⊎ FailsAtOnce first before after ended

-- how a run ends that serves a board at these doors, where the first line has been put
abbrev pub ServesBegun : {D C : Type 0} → RunHouse D C → RunEar → Boarded → List D → Option (List ℕ) → Option (List ℕ)
    → Status → Type 0
ServesBegun house ear board doors before after ended =
    EndsBegun house ear (IsServedSo house ear board doors) doors before after ended

-- the same from before the first text is put
abbrev pub ServesAt : {D C : Type 0} → RunHouse D C → RunEar → Boarded → List D → ℕ → Option (List ℕ) → Option (List ℕ)
    → Status → Type 0
ServesAt house ear board doors port before after ended =
    EndsAt house ear (IsServedSo house ear board doors) doors (serving_text port) before after ended

-- ---- how a board is served at the doors of a house

-- the doors that were asked for, as a house gives them
pub record AreOpened {D C : Type 0} (house : RunHouse D C) (asked : DoorsAsked) (doors : List D) : Type 0 where
  pub count : length doors ≡ asked.count
  pub port : All (λ door. TellsPort house.before.lent (house.door door) asked.port) doors
  pub unknocked : All (λ door. IsUnknocked (house.door door)) doors

-- the house of a run from where it has given these doors
abbrev pub with_given : {D C : Type 0} → RunHouse D C → DoorsAsked → RunHouse D C
with_given house asked =
    record house { before = with_doors_lent house.before asked.port asked.count }

-- the house gave the doors, the board was served at them or not, and they were handed back
pub record ServesDoors {D C : Type 0} (house : RunHouse D C) (ear : RunEar) (board : Boarded) (asked : DoorsAsked)
    (before after : Option (List ℕ))
    (ended : Status) : Type 0 where
  pub doors : List D
  pub opened : AreOpened house asked doors
  pub ends : ServesAt (with_given house asked) ear board doors asked.port before after ended

-- why there are no doors
abbrev pub IsDoorsCause : {D C : Type 0} → RunHouse D C → Status → Type 0
IsDoorsCause house status.ReadFault = Rose house.before.door_faults house.after.door_faults
IsDoorsCause house status.NoMemory = Unit {0}
IsDoorsCause house _ = ⊥

-- the house gave none, and the line of the cause was put
pub record OpensNone {D C : Type 0} (house : RunHouse D C) (ear : RunEar) (before after : Option (List ℕ))
    (ended : Status) : Type 0 where
  pub cause : Status
  pub is : IsDoorsCause house cause
  pub kept : house.after.lent ≡ house.before.lent
  pub heard : IsUnrung ear
  pub put : PutsCause before after cause ended

-- HOW A BOARD IS SERVED AT THE DOORS OF A HOUSE
abbrev pub ServeEnds : {D C : Type 0} → RunHouse D C → RunEar → Boarded → DoorsAsked → Option (List ℕ)
    → Option (List ℕ) → Status → Type 0
ServeEnds house ear board asked before after ended =
    ServesDoors house ear board asked before after ended ⊎ OpensNone house ear before after ended

-- ---- how a board is served that begins with the map in a file

-- the board was served at these doors, which were asked for once, and at no other
pub record ServesFirst {D C : Type 0} (file : RunFile) (order : OrderKind) (room : ℕ) (doors : DoorsAsked)
    (house : RunHouse D C) (ear : RunEar) (before after : Option (List ℕ))
    (ended : Status) : Type 0 where
  pub board : Boarded
  pub first : IsFirstBoard file order room board
  pub once : house.after.asked ≡ doors ∷ []
  pub ends : ServeEnds house ear board doors before after ended

-- no doors were asked for, none was given and none failed, and no ring was heard
pub record IsUnopened {D C : Type 0} (house : RunHouse D C) (ear : RunEar) : Type 0 where
  pub none : house.after.asked ≡ []
  pub kept : house.after.lent ≡ house.before.lent
  pub quiet : house.after.door_faults ≡ house.before.door_faults
  pub heard : IsUnrung ear

-- the file gives no board to serve, and the line of the cause was put
pub record HasNoBoard {D C : Type 0} (file : RunFile) (house : RunHouse D C) (ear : RunEar)
    (before after : Option (List ℕ)) (ended : Status) : Type 0 where
  pub cause : Status
  pub is : IsMapFileCause file cause
  pub unopened : IsUnopened house ear
  pub put : PutsCause before after cause ended

-- HOW `serve` ENDS, of which the map's file, the order, the room and the doors are told
abbrev pub Serves : {D C : Type 0} → RunFile → OrderKind → ℕ → DoorsAsked → RunHouse D C → RunEar
    → Option (List ℕ) → Option (List ℕ) → Status → Type 0
Serves file order room doors house ear before after ended =
    ServesFirst file order room doors house ear before after ended
    ⊎ HasNoBoard file house ear before after ended

-- a read failed: of the map's file, or at a door
abbrev pub FailsToRead : {D C : Type 0} → RunFile → RunHouse D C → Type 0
FailsToRead file house = HasFailed file ⊎ Rose house.before.door_faults house.after.door_faults

-- the status of doors that were not opened
abbrev pub status_without_doors : HouseError → Status
status_without_doors refusal.Failed = status.ReadFault
status_without_doors refusal.NoMemory = status.NoMemory
