-- A follower: what becomes of its board by each message of a feed.
--
-- A feed begins with the map before any edit, and goes on with edits that were accepted on it. The follower accepts them
-- on a board of its own, and publishes a version behind each message that has any.
use Rattle.std.specs.Prelude.{◌≡◌, ◌⊎◌, ℕ, ⊤, Option, Some, None, List, [], ◌∷◌, ◌++◌, map, option_map}
use Rattle.moves.specs.Maps.{Map}
use Rattle.cell_order.specs.declared.OrderKind.{OrderKind}
use Rattle.edit_log.specs.declared.edit.Edit.{Edit}
use Rattle.edit_log.specs.Verdicts.{MayBeAccepted}
use Rattle.path_core.specs.declared.entry.Entry.{Entry}
use Rattle.path_core.specs.declared.entry.Entry.TheVariants.{Accept, Publish}
use Rattle.path_core.specs.Boards.{Boarded}
use Rattle.path_core.specs.Histories.{accepted_count, map_now, IsLegal}
use Rattle.follow_proto.specs.Feeds.{Message}
use Rattle.follow_proto.specs.Feeds.Message.{Start, Edits, Ahead, NoMemory}
use Rattle.follow_node.specs.declared.faults.FollowFault.{FollowFault}
use Rattle.follow_node.specs.declared.faults.FollowFault.TheVariants as fault
use Rattle.follow_node.specs.Reading.{Spells}

-- the board of a follower: the map before any edit, the order of its versions, and its history
pub record Followed : Type 0 where
  pub start : Map
  pub order : OrderKind
  pub history : List Entry

abbrev pub followed_of : Boarded → Followed
followed_of board = record { start = board.start; order = board.order; history = board.history }

-- a board with no entries
abbrev pub new_followed : OrderKind → Map → Followed
new_followed order map = record { start = map; order = order; history = [] }

-- the entries of edits that are accepted
abbrev pub accepts : List Edit → List Entry
accepts edits = map (λ edit. Accept 0 edit) edits

-- the board with these edits accepted
abbrev pub with_edits : Followed → List Edit → Followed
with_edits board edits = record board { history = board.history ++ accepts edits }

-- the board with a version after all accepted edits published
abbrev pub with_published : Followed → Followed
with_published board = record board { history = board.history ++ Publish 0 (accepted_count board.history) ∷ [] }

-- the board after a message of edits: where there are any, a version after all of them is published
abbrev pub after_edits : Followed → List Edit → Followed
after_edits board [] = board
after_edits board (edit ∷ edits) = with_published (with_edits board (edit ∷ edits))

-- the edits may be accepted, one after the other
abbrev pub CanAllBeAccepted : Followed → List Edit → Type 0
CanAllBeAccepted board edits = IsLegal board.start (with_edits board edits).history

-- the edit may not be accepted on the board
abbrev pub CannotBeAccepted : Followed → Edit → Type 0
CannotBeAccepted board edit = MayBeAccepted (map_now board.start board.history) (accepted_count board.history) edit → ⊥

-- The message may come next. The map comes first and only then; edits go on from those that were accepted.
abbrev pub IsNext : Option Followed → Message → Type 0
IsNext None (Start map) = ⊤
IsNext None message = ⊥
IsNext (Some board) (Start map) = ⊥
IsNext (Some board) (Edits known edits) = (known ≡ accepted_count board.history) × CanAllBeAccepted board edits
IsNext (Some board) (Ahead accepted) = ⊤
IsNext (Some board) NoMemory = ⊤

-- the frame is that of a message that may come next
pub record Continues (board : Option Followed) (frame : List ℕ) (message : Message) : Type 0 where
  pub spelled : Spells frame message
  pub next : IsNext board message

-- the board after a message
abbrev pub board_after : OrderKind → Option Followed → Message → Option Followed
board_after order board (Start map) = Some (new_followed order map)
board_after order board (Edits known edits) = option_map (λ b. after_edits b edits) board
board_after order board (Ahead accepted) = board
board_after order board NoMemory = board

-- why the follower follows no further behind a message, if so
abbrev pub fault_after : Message → Option FollowFault
fault_after (Ahead accepted) = Some (fault.Ahead accepted)
fault_after NoMemory = Some fault.LeaderMemory
fault_after message = None

-- a frame of a message that may come next was heard
pub record Hears (order : OrderKind) (before : Option Followed) (frame : List ℕ)
    (why : Option FollowFault) (after : Option Followed) : Type 0 where
  pub message : Message
  pub continues : Continues before frame message
  pub board : after ≡ board_after order before message
  pub fault_is : why ≡ fault_after message

-- the frame is no message of edits that go on from the accepted ones, and none is accepted
pub record TakesNone (board : Followed) (frame : List ℕ) (taken : List Edit) : Type 0 where
  pub none : (edits : List Edit) → Spells frame (Edits (accepted_count board.history) edits) → ⊥
  pub empty : taken ≡ []

-- it is such a message, and the edits before the first one that may not be accepted are
pub record TakesFront (board : Followed) (frame : List ℕ) (taken : List Edit) : Type 0 where
  pub refused : Edit
  pub rest : List Edit
  pub spelled : Spells frame (Edits (accepted_count board.history) (taken ++ refused ∷ rest))
  pub can : CanAllBeAccepted board taken
  pub cannot : CannotBeAccepted (with_edits board taken) refused

-- the board behind a frame that is refused
abbrev pub LeavesBoard : Option Followed → List ℕ → Option Followed → Type 0
LeavesBoard None frame after = after ≡ None
LeavesBoard (Some board) frame after =
    (taken : List Edit) × (TakesNone board frame taken ⊎ TakesFront board frame taken) × (after ≡ Some (with_edits board taken))

-- a frame of no message that may come next was refused, by the place of its message in the stream
pub record Refuses (before : Option Followed) (frame : List ℕ) (at : ℕ)
    (why : Option FollowFault) (after : Option Followed) : Type 0 where
  pub none : (message : Message) → Continues before frame message → ⊥
  pub fault_is : why ≡ Some (fault.Bad at)
  pub board : LeavesBoard before frame after

-- what becomes of the board by a whole frame
abbrev pub Judges : OrderKind → Option Followed → List ℕ → ℕ → Option FollowFault → Option Followed → Type 0
Judges order before frame at why after = Hears order before frame why after ⊎ Refuses before frame at why after

-- the first of the edits that a frame spells, or none
pub record IsFrontOf (board : Followed) (frame : List ℕ) (taken : List Edit) : Type 0 where
  pub rest : List Edit
  pub spelled : Spells frame (Edits (accepted_count board.history) (taken ++ rest))
  pub can : CanAllBeAccepted board taken

-- the board where memory ran out: no version was published, and some first edits were accepted
abbrev pub HaltsBoard : Option Followed → List ℕ → Option Followed → Type 0
HaltsBoard None frame after = after ≡ None
HaltsBoard (Some board) frame after = (after ≡ Some board)
    ⊎ ((taken : List Edit) × IsFrontOf board frame taken × (after ≡ Some (with_edits board taken)))

-- memory ran out while a frame was heard
pub record RunsOut (before : Option Followed) (frame : List ℕ) (why : Option FollowFault) (after : Option Followed) : Type 0 where
  pub fault_is : why ≡ Some fault.NoMemory
  pub board : HaltsBoard before frame after

-- what becomes of the board by a whole frame, where memory may run out
abbrev pub JudgesOrHalts : OrderKind → Option Followed → List ℕ → ℕ → Option FollowFault → Option Followed → Type 0
JudgesOrHalts order before frame at why after =
    Judges order before frame at why after ⊎ RunsOut before frame why after
