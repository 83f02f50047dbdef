-- A feed of a board's history: the map before any edit, and then a message for each ask.
--
-- Others use the board while a feed goes on, so each message has two points of the history: at the first one it is seen
-- whether so many edits were accepted as the follower knows, and at the second one the edits are taken.
use Rattle.std.specs.Prelude.{◌≡◌, ℕ, ◌+◌, ◌^◌, ◌<◌, ◌≤◌, ⊤, List, [], ◌∷◌, ◌++◌, length, take, drop}
use Rattle.std.specs.List.{flat_map}
use Rattle.moves.specs.Maps.{Map}
use Rattle.edit_log.specs.declared.edit.CellChange.{CellChange}
use Rattle.path_core.specs.declared.entry.Entry.{Entry}
use Rattle.path_core.specs.Histories.{accepted_count, edits_of}
use Rattle.path_core.specs.Passes.{BeginsWith}
use Rattle.follow_proto.specs.declared.TheConstants.{MAX_SENT}
use Rattle.follow_proto.specs.Feeds.{Message, ask_bytes, message_bytes, start_bytes}
use Rattle.follow_proto.specs.Feeds.Message.{Start, Edits, Ahead, NoMemory}

-- an ask, by how many edits are known, and the message that answers it
pub record Told : Type 0 where
  pub known : ℕ
  pub message : Message

-- The message answers an ask at two points: fewer edits were accepted than are known; or these are the accepted ones past
-- the known ones, as many as one message may have; or there was no memory for them.
abbrev pub MaySay : List Entry → List Entry → ℕ → Message → Type 0
MaySay one two known (Start map) = ⊥
MaySay one two known (Ahead accepted) = (accepted ≡ accepted_count one) × (accepted < known)
MaySay one two known (Edits from edits) =
    (known ≤ accepted_count one) × (from ≡ known) × (edits ≡ take MAX_SENT (drop known (edits_of two)))
MaySay one two known NoMemory = known ≤ accepted_count one

-- at some two points, of which each goes on from the one before; an ask has its number in four bytes
pub record Answers (before : List Entry) (told : Told) (after : List Entry) : Type 0 where
  pub low : told.known < 2 ^ 32
  pub point : List Entry
  pub goes : BeginsWith point before
  pub on : BeginsWith after point
  pub says : MaySay point after told.known told.message

-- the messages of a feed, one after the other, up to a history that goes on from the last point
abbrev pub AnswersAll : List Entry → List Told → List Entry → Type 0
AnswersAll before [] now = BeginsWith now before
AnswersAll before (told ∷ rest) now = (after : List Entry) × Answers before told after × AnswersAll after rest now

-- a feed that goes on from some point is one from the beginning on
abbrev pub FeedsBeginAnywhere : Type 0
FeedsBeginAnywhere = (point history : List Entry) (tolds : List Told) → AnswersAll point tolds history → AnswersAll [] tolds history

-- the bytes of the asks
abbrev pub asked_bytes : List Told → List ℕ
asked_bytes tolds = flat_map (λ told. ask_bytes told.known) tolds

-- the bytes of the messages that answer them
abbrev pub told_bytes : List Told → List ℕ
told_bytes tolds = flat_map (λ told. message_bytes told.message) tolds

-- the bytes of a feed
abbrev pub feed_bytes : Map → List Told → List ℕ
feed_bytes start tolds = start_bytes start ++ told_bytes tolds

-- A FEED of a history, by the asks and the bytes that are sent
pub record IsFeed (start : Map) (history : List Entry) (asked sent : List ℕ) : Type 0 where
  pub tolds : List Told
  pub answers : AnswersAll [] tolds history
  pub asked_is : asked ≡ asked_bytes tolds
  pub sent_is : sent ≡ feed_bytes start tolds

-- each message has edits, and these go on from those that were sent before, which are so many
abbrev pub GoOnFrom : ℕ → List Told → Type 0
GoOnFrom count [] = ⊤
GoOnFrom count (told ∷ rest) =
    (edits : List (List CellChange)) × (told.message ≡ Edits count edits) × GoOnFrom (count + length edits) rest

-- A FOLLOWING FEED of a history begins with these bytes: all of its messages have edits, and none is left out or sent twice
pub record BeginsFollowing (start : Map) (history : List Entry) (bytes : List ℕ) : Type 0 where
  pub tolds : List Told
  pub answers : AnswersAll [] tolds history
  pub goes_on : GoOnFrom 0 tolds
  pub rest : List ℕ
  pub whole : feed_bytes start tolds ≡ bytes ++ rest
