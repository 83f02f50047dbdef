-- A board that is served at the doors of a house and fed at one door more, what is put of it, and how it ends.
use Rattle.std.specs.Prelude.{◌≡◌, ◌≢◌, ◌⊎◌, ℕ, ◌+◌, ◌<◌, All, Bool, List, [], ◌∷◌, ◌++◌, Option, codes, length, true}
use Rattle.std.specs.Fmt.{decimal}
use Rattle.wire.specs.Houses.{AtHouse, HasLentDoors, IsUnknocked, with_doors_back, with_doors_given}
use Rattle.wire.specs.Knocks.{AtDoor}
use Rattle.wire.specs.Rings.{AtEar}
use Rattle.wire.specs.declared.house.DoorsAsked.{DoorsAsked}
use Rattle.moves.specs.Maps.{Map}
use Rattle.path_core.specs.Boards.{Boarded}
use Rattle.path_core.specs.Histories.{IsLegal}
use Rattle.path_core.specs.Passes.{pass_of}
use Rattle.session.specs.declared.builder.BuildTotals.{BuildTotals}
use Rattle.session.specs.ServedBoards.{AreServed, FailedSo, IsBuiltBy}
use Rattle.lead_node.specs.Leading.{IsFed}
use Rattle.path_commands.specs.declared.status.Status.{Status}
use Rattle.path_commands.specs.Runs.{RunFile}
use Rattle.path_commands.specs.Serving.{AreOpened, CanBeServed, EndsAt, EndsBegun, HasNoBoard, IsDoorsCause, IsUnrung, PutsCause}
use Rattle.path_commands.specs.Serving.{RunEar, serving_text, with_given}
use Rattle.path_commands.specs.Asks.{RunHouse}
use Rattle.path_commands.specs.Talks.{IsFirstBoard}
use Rattle.path_commands.specs.Texts.{line}
use Rattle.path_commands.specs.declared.request.LeadAsked.{LeadAsked}

-- what is put before the first knock
abbrev pub leading_text : ℕ → ℕ → List ℕ
leading_text port feed = serving_text port ++ line (codes "feeding " ++ decimal feed)

-- ---- how a board is served at doors that are open, and fed at one

-- The board was served at these doors and fed at one more, and was such in the end. The pass that fed entered nothing, and the
-- last pass built at each ring until the bell was shut.
pub record IsLedAt {D C : Type 0} (house : RunHouse D C) (ear : RunEar) (board : Boarded) (doors doors_after : List D)
    (feed feed_after : D) (last : Boarded) (builds : BuildTotals) (failed : Bool) : Type 0 where
  pub same_start : last.start ≡ board.start
  pub same_order : last.order ≡ board.order
  pub same_room : last.room ≡ board.room
  pub legal : IsLegal last.start last.history
  pub named : All (λ entry. pass_of entry < length doors + 2) last.history
  pub quiet : All (λ entry. pass_of entry ≢ length doors) last.history
  pub served : AreServed house.door board doors doors_after last.history
  pub fed : IsFed house.door board.start board (length doors) feed feed_after last.history
  pub built : IsBuiltBy board (length doors + 1) builds ear.before.rung ear.after.rung last.history
  pub how : FailedSo house.door failed (doors ++ feed ∷ []) (doors_after ++ feed_after ∷ []) last.history
  pub over : ear.after.over ≡ true

-- so it was at all doors together, of which the last is that of the feed
pub record IsLedSo {D C : Type 0} (house : RunHouse D C) (ear : RunEar) (board : Boarded) (doors : List D) (feed : D)
    (all_after : List D) (last : Boarded) (failed : Bool) : Type 0 where
  pub doors_after : List D
  pub feed_after : D
  pub all_after_are : all_after ≡ doors_after ++ feed_after ∷ []
  pub builds : BuildTotals
  pub led : IsLedAt house ear board doors doors_after feed feed_after last builds failed

-- what has to hold before: that for the doors, and for the door of the feed too, and the version is of the board's first map
pub record CanBeLed {D C : Type 0} (at : D → AtDoor) (board : Boarded) (start : Map) (doors : List D) (feed : D)
    (workers : ℕ) (house : AtHouse D C) (ear : AtEar) : Type 0 where
  pub served : CanBeServed at board doors workers house ear
  pub start_is : start ≡ board.start
  pub unknocked : IsUnknocked (at feed)
  pub lent : HasLentDoors house.lent (length doors + 1)

-- how a run ends that leads a board at these doors, where the first lines have been put
abbrev pub LeadsBegun : {D C : Type 0} → RunHouse D C → RunEar → Boarded → List D → D → Option (List ℕ)
    → Option (List ℕ) → Status → Type 0
LeadsBegun house ear board doors feed before after ended =
    EndsBegun house ear (IsLedSo house ear board doors feed) (doors ++ feed ∷ []) before after ended

-- the same from before the first text is put
abbrev pub LeadsAt : {D C : Type 0} → RunHouse D C → RunEar → Boarded → List D → D → ℕ → ℕ → Option (List ℕ)
    → Option (List ℕ) → Status → Type 0
LeadsAt house ear board doors feed port feed_port before after ended =
    EndsAt house ear (IsLedSo house ear board doors feed) (doors ++ feed ∷ []) (leading_text port feed_port)
    before after ended

-- ---- how a board is led at the doors of a house

-- the request for the door of the feed
abbrev pub feed_asked : ℕ → DoorsAsked
feed_asked port = record { port = port; count = 1 }

-- the doors that were asked for, and that of the feed, as a house gives them one after the other
pub record AreBothOpened {D C : Type 0} (house : RunHouse D C) (asked : DoorsAsked) (feed_port : ℕ) (doors : List D)
    (feed : D) : Type 0 where
  pub opened : AreOpened house asked doors
  pub fed : AreOpened (with_given house asked) (feed_asked feed_port) (feed ∷ [])

-- the house after it gave both
abbrev pub with_both_given : {D C : Type 0} → RunHouse D C → DoorsAsked → ℕ → RunHouse D C
with_both_given house asked feed_port = with_given (with_given house asked) (feed_asked feed_port)

-- the house was asked for both, and gave them; the board was led at them or not, and they were handed back
pub record LeadsDoors {D C : Type 0} (house : RunHouse D C) (ear : RunEar) (board : Boarded) (asked : DoorsAsked)
    (feed_port : ℕ) (before after : Option (List ℕ)) (ended : Status) : Type 0 where
  pub both : house.after.asked ≡ asked ∷ feed_asked feed_port ∷ []
  pub doors : List D
  pub feed : D
  pub opened : AreBothOpened house asked feed_port doors feed
  pub ends : LeadsAt (with_both_given house asked feed_port) ear board doors feed asked.port feed_port before after ended

-- it was asked for the doors alone, and gave none
pub record IsRefusedDoors {D C : Type 0} (house : RunHouse D C) (asked : DoorsAsked) : Type 0 where
  pub once : house.after.asked ≡ asked ∷ []
  pub kept : house.after.lent ≡ house.before.lent

-- it gave the doors and none for the feed, and they were handed back as they were
pub record IsRefusedFeed {D C : Type 0} (house : RunHouse D C) (asked : DoorsAsked) (feed_port : ℕ) : Type 0 where
  pub both : house.after.asked ≡ asked ∷ feed_asked feed_port ∷ []
  pub doors : List D
  pub opened : AreOpened house asked doors
  pub back : house.after.lent ≡ with_doors_back (with_doors_given house.before.lent asked.count) doors

-- either of the two
abbrev pub IsRefused : {D C : Type 0} → RunHouse D C → DoorsAsked → ℕ → Type 0
IsRefused house asked feed_port =
    IsRefusedDoors house asked ⊎ IsRefusedFeed house asked feed_port

-- the house did not give both: no ring was heard, and the line of the cause was put
pub record LeadsNowhere {D C : Type 0} (house : RunHouse D C) (ear : RunEar) (asked : DoorsAsked) (feed_port : ℕ)
    (before after : Option (List ℕ)) (ended : Status) : Type 0 where
  pub refused : IsRefused house asked feed_port
  pub cause : Status
  pub is : IsDoorsCause house cause
  pub heard : IsUnrung ear
  pub put : PutsCause before after cause ended

-- HOW A BOARD IS LED AT THE DOORS OF A HOUSE
abbrev pub LeadEnds : {D C : Type 0} → RunHouse D C → RunEar → Boarded → DoorsAsked → ℕ
    → Option (List ℕ) → Option (List ℕ) → Status → Type 0
LeadEnds house ear board asked feed_port before after ended =
    LeadsDoors house ear board asked feed_port before after ended
    ⊎ LeadsNowhere house ear asked feed_port before after ended

-- ---- how the command ends

-- the board begins with the map in the file, and was led
pub record LeadsBoard {D C : Type 0} (asked : LeadAsked) (file : RunFile) (house : RunHouse D C) (ear : RunEar)
    (before after : Option (List ℕ)) (ended : Status) : Type 0 where
  pub board : Boarded
  pub first : IsFirstBoard file asked.build.order asked.room board
  pub ends : LeadEnds house ear board asked.doors asked.feed before after ended

-- HOW THE COMMAND ENDS
abbrev pub Leads : {D C : Type 0} → LeadAsked → RunFile → RunHouse D C → RunEar
    → Option (List ℕ) → Option (List ℕ) → Status → Type 0
Leads asked file house ear before after ended =
    LeadsBoard asked file house ear before after ended
    ⊎ HasNoBoard file house ear before after ended
