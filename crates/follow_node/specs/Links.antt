-- A follower at a link: what it takes of the link and sends over it, message by message.
use Rattle.std.specs.Prelude.{◌≡◌, ◌⊎◌, ℕ, ◌+◌, ◌<◌, ◌≤◌, Some, None, Option, Result, Ok, Err, List, [], ◌∷◌, ◌++◌, length}
use Rattle.std.specs.List.{flat_map}
use Rattle.follow_proto.specs.declared.TheConstants.{MAX_FRAME}
use Rattle.follow_proto.specs.Feeds.{ask_bytes}
use Rattle.wire.specs.Talks.{Talk}
use Rattle.path_client.specs.Taking.{NothingLeft, Takes}
use Rattle.path_client.specs.Asking.{IsFirstPart, Passes}
use Rattle.follow_node.specs.declared.links.LinkFault.{LinkFault}
use Rattle.follow_node.specs.declared.links.LinkFault.TheVariants as link
use Rattle.follow_node.specs.Streams.{Following, accepted_of, size_said, IsBegun, StopsShort, Took}

-- the bytes are one message, whole: its length, and a frame as long as that says
pub record IsOne (bytes : List ℕ) : Type 0 where
  pub told : 4 ≤ length bytes
  pub short : size_said bytes ≤ MAX_FRAME
  pub all : length bytes ≡ 4 + size_said bytes

-- no byte behind one message is among them: behind a length that no message has none at all
abbrev pub IsInOne : List ℕ → Type 0
IsInOne bytes = (length bytes ≤ 4) ⊎ ((size_said bytes ≤ MAX_FRAME) × (length bytes ≤ 4 + size_said bytes))

-- a whole message was taken, and the follower follows on
pub record Heeds (before : Following) (message : List ℕ) (after : Following) : Type 0 where
  pub one : IsOne message
  pub took : Took before message after
  pub unfaulted : after.fault ≡ None

-- the ask of a follower: for the edits past those that it accepted
abbrev pub ask_of : Following → List ℕ
ask_of follower = ask_bytes (accepted_of follower.board)

-- rounds: in each an ask was sent and then a whole message taken
abbrev pub Rounds : Following → List (List ℕ) → List ℕ → Following → Type 0
Rounds before [] sent after = (sent ≡ []) × (after ≡ before)
Rounds before (message ∷ messages) sent after =
    (rest : List ℕ) × (mid : Following) × (sent ≡ ask_of before ++ rest) × Heeds before message mid × Rounds mid messages rest after

-- the bytes of messages, one behind the other
abbrev pub all_of : List (List ℕ) → List ℕ
all_of messages = flat_map (λ message. message) messages

-- the map was taken, and then there were so many rounds
pub record HasFollowed (rounds : ℕ) (before : Following) (taken sent : List ℕ) (after : Following) : Type 0 where
  pub start : List ℕ
  pub began : Following
  pub begins : Heeds before start began
  pub messages : List (List ℕ)
  pub many : length messages ≡ rounds
  pub goes_on : Rounds began messages sent after
  pub taken_is : taken ≡ start ++ all_of messages

-- Why the message that was awaited is not heeded, by the bytes that were taken of it: the follower follows no further; or the
-- link ended or failed before it was whole.
abbrev pub StopsBy : Following → List ℕ → Option Talk → LinkFault → Following → Type 0
StopsBy before part told (link.Follow fault) after =
    (Took before part after ⊎ StopsShort before part after) × (after.fault ≡ Some fault) × IsInOne part
StopsBy before part told (link.Closed have) after =
    Took before part after × (after.fault ≡ None) × IsBegun part × (have ≡ length part) × NothingLeft told
StopsBy before part told link.ReadFault after = Took before part after × (after.fault ≡ None) × IsBegun part
StopsBy before part told link.WriteFault after = ⊥

-- it was the map
pub record StopsFirst (before : Following) (taken sent : List ℕ) (told : Option Talk) (why : LinkFault) (after : Following)
    : Type 0 where
  pub none : sent ≡ []
  pub by : StopsBy before taken told why after

-- it was the message of a round, and the ask had been sent
pub record StopsInRound (rounds : ℕ) (before : Following) (taken sent : List ℕ) (told : Option Talk) (why : LinkFault)
    (after : Following) : Type 0 where
  pub done : ℕ
  pub fewer : done < rounds
  pub at : Following
  pub heard : List ℕ
  pub asked : List ℕ
  pub followed : HasFollowed done before heard asked at
  pub part : List ℕ
  pub taken_is : taken ≡ heard ++ part
  pub sent_is : sent ≡ asked ++ ask_of at
  pub by : StopsBy at part told why after

-- less than the ask of a round was sent
pub record StopsUnsent (rounds : ℕ) (before : Following) (taken sent : List ℕ) (why : LinkFault) (after : Following)
    : Type 0 where
  pub why_is : why ≡ link.WriteFault
  pub done : ℕ
  pub fewer : done < rounds
  pub asked : List ℕ
  pub followed : HasFollowed done before taken asked after
  pub part : List ℕ
  pub sent_is : sent ≡ asked ++ part
  pub unsent : IsFirstPart part (ask_of after)

-- how it ended
abbrev pub EndsSo : {A : Type 0} → ℕ → Following → List ℕ → List ℕ → Option Talk → Result A LinkFault → Following → Type 0
EndsSo rounds before taken sent told (Ok done) after = HasFollowed rounds before taken sent after
EndsSo rounds before taken sent told (Err why) after = StopsFirst before taken sent told why after
    ⊎ (StopsInRound rounds before taken sent told why after ⊎ StopsUnsent rounds before taken sent why after)

-- WHAT A FOLLOWER DID OVER A LINK: what was taken and sent, and how it ended
pub record FollowsLink {A : Type 0} (rounds : ℕ) (before : Following) (told : Option Talk) (result : Result A LinkFault)
    (after : Following) (then : Option Talk) : Type 0 where
  pub taken : List ℕ
  pub sent : List ℕ
  pub passes : Passes told then taken sent
  pub ends : EndsSo rounds before taken sent then result after

-- ---- one message, piece by piece

-- how many bytes are to come of the message that was begun, or of its length: none where none was begun
pub record IsAwaited (held : List ℕ) (wanted : ℕ) : Type 0 where
  pub none : held ≡ [] → wanted ≡ 0
  pub some : 0 < length held → 0 < wanted
  pub size : length held < 4 → length held + wanted ≤ 4
  pub frame : 4 ≤ length held → length held + wanted ≡ 4 + size_said held

-- a piece was taken of the link and by the follower
pub record TakesPiece (most : ℕ) (before : Following) (told : Option Talk) (after : Following) (then : Option Talk) : Type 0 where
  pub piece : List ℕ
  pub some : 0 < length piece
  pub few : length piece ≤ most
  pub takes : Takes told then piece
  pub took : Took before piece after
  pub unfaulted : after.fault ≡ None

-- the follower follows no further at these bytes
abbrev pub GivesUp : Following → List ℕ → Following → LinkFault → Type 0
GivesUp before piece after (link.Follow fault) =
    (Took before piece after ⊎ StopsShort before piece after) × (after.fault ≡ Some fault)
GivesUp before piece after _ = ⊥

-- why no piece was
abbrev pub LacksBy : Following → List ℕ → ℕ → Option Talk → LinkFault → Following → Type 0
LacksBy before piece held told (link.Follow fault) after =
    (Took before piece after ⊎ StopsShort before piece after) × (after.fault ≡ Some fault)
LacksBy before piece held told (link.Closed have) after = (piece ≡ []) × (after ≡ before) × (have ≡ held) × NothingLeft told
LacksBy before piece held told link.ReadFault after = (piece ≡ []) × (after ≡ before)
LacksBy before piece held told link.WriteFault after = ⊥

pub record LacksPiece (most held : ℕ) (before : Following) (told : Option Talk) (why : LinkFault) (after : Following)
    (then : Option Talk) : Type 0 where
  pub piece : List ℕ
  pub few : length piece ≤ most
  pub takes : Takes told then piece
  pub by : LacksBy before piece held then why after

-- the next message was taken whole, and no byte more
pub record HeedsFrom (before : Following) (told : Option Talk) (after : Following) (then : Option Talk) : Type 0 where
  pub message : List ℕ
  pub takes : Takes told then message
  pub heeds : Heeds before message after

-- it was not
pub record StopsFrom (before : Following) (told : Option Talk) (why : LinkFault) (after : Following) (then : Option Talk)
    : Type 0 where
  pub part : List ℕ
  pub takes : Takes told then part
  pub by : StopsBy before part then why after

-- ---- rounds

-- how a round went: its message was heeded behind an ask, or the round failed
pub record GoesRound (before : Following) (told : Option Talk) (after : Following) (then : Option Talk) : Type 0 where
  pub message : List ℕ
  pub passes : Passes told then message (ask_of before)
  pub heeds : Heeds before message after

pub record FailsRound (before : Following) (told : Option Talk) (why : LinkFault) (after : Following) (then : Option Talk)
    : Type 0 where
  pub part : List ℕ
  pub sent : List ℕ
  pub passes : Passes told then part sent
  pub how : ((sent ≡ ask_of before) × StopsBy before part then why after)
      ⊎ ((why ≡ link.WriteFault) × (part ≡ []) × (after ≡ before) × IsFirstPart sent (ask_of before))

-- so many rounds, or some of them and then one that failed
pub record GoesRounds (rounds : ℕ) (before : Following) (told : Option Talk) (after : Following) (then : Option Talk) : Type 0 where
  pub messages : List (List ℕ)
  pub many : length messages ≡ rounds
  pub sent : List ℕ
  pub passes : Passes told then (all_of messages) sent
  pub goes : Rounds before messages sent after

pub record FailsRounds (rounds : ℕ) (before : Following) (told : Option Talk) (why : LinkFault) (after : Following)
    (then : Option Talk) : Type 0 where
  pub done : ℕ
  pub fewer : done < rounds
  pub mid : Following
  pub between : Option Talk
  pub goes : GoesRounds done before told mid between
  pub fails : FailsRound mid between why after then
