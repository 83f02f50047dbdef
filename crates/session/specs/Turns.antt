-- One turn of a session: the next frame is cut from what comes in, and answered.
use Rattle.std.specs.Prelude.{◌≡◌, ℕ, ◌+◌, ◌<◌, ◌≤◌, Bool, Err, IfSome, IsFalse, List, None, Ok, Option, Result, Some, [], ◌++◌, length, map, take}
use Rattle.std.specs.Io.{StartsWith}
use Rattle.byteorder.specs.Endian.{big_bytes}
use Rattle.moves.specs.declared.Move.{Move}
use Rattle.moves.specs.Moves.{number_of}
use Rattle.query_proto.specs.declared.TheConstants.{MAX_REQUEST}
use Rattle.query_proto.specs.declared.protocols.Proto.{Proto}
use Rattle.query_proto.specs.declared.protocols.Proto.TheVariants.{One, Two}
use Rattle.query_proto.specs.declared.replies.Reply.{Reply}
use Rattle.query_proto.specs.declared.replies.Reply.TheVariants as reply
use Rattle.query_proto.specs.declared.requests.Request.{Request}
use Rattle.query_proto.specs.declared.requests.Request.TheVariants as request
use Rattle.query_proto.specs.Frames.{limit_of, sent_reply, sent_request}
use Rattle.wire.specs.declared.faults.Failed.{Failed}
use Rattle.wire.specs.Talks.{SendsPrefix, Talk, with_sent, with_taken}
use Rattle.session.specs.declared.sessions.Ended.{Ended}
use Rattle.session.specs.declared.sessions.Ended.TheVariants as ended
use Rattle.session.specs.declared.sessions.Session.{Session}
use Rattle.session.specs.declared.sessions.SessionFault.{SessionFault}
use Rattle.session.specs.declared.sessions.SessionFault.TheVariants as fault
use Rattle.session.specs.Conversations.{Exchange, GoesOn, HasNone, IsBegun, IsBye, IsPart, IsStop, ServesFrame}
use Rattle.session.specs.Conversations.{protocol_after}
use Rattle.session.specs.Standing.{AtDesk, Place, Standing, stands}

-- ---- what comes in

-- these bytes were taken of what was left
pub record Takes (before after : Option Talk) (taken : List ℕ) : Type 0 where
  pub front : IfSome before (λ talk. StartsWith talk.left taken)
  pub after_is : after ≡ with_taken before (length taken)

-- bytes that were taken are held after those that were held
pub record HoldsMore (before after : Option Talk) (held now : List ℕ) : Type 0 where
  pub more : List ℕ
  pub grown : now ≡ held ++ more
  pub takes : Takes before after more

-- A frame of this many bytes, within the limit, is held after its length, and at most the length of the next one after
-- it; nothing where no further frame may be taken, and after a frame of one byte.
pub record HoldsFrame (limit : ℕ) (ahead : Bool) (held : List ℕ) (size : ℕ) : Type 0 where
  pub fits : size ≤ limit
  pub short : size ≤ MAX_REQUEST
  pub size_is : take 2 held ≡ big_bytes 2 size
  pub whole : 2 + size ≤ length held
  pub most : length held ≤ 4 + size
  pub last : IsFalse ahead → length held ≤ 2 + size
  pub alone : size ≡ 1 → length held ≤ 2 + size

-- why no frame within the limit came, with what is held then
abbrev pub StopsSo : ℕ → List ℕ → Option Talk → SessionFault → Type 0
StopsSo limit held now (fault.Torn have want) = (have ≡ length held) × IsPart limit held want × HasNone now
StopsSo limit held now (fault.TooLong size) = (limit < size) × (held ≡ big_bytes 2 size)
StopsSo limit held now fault.ReadFault = IsBegun limit held
StopsSo limit held now fault.WriteFault = ⊥

-- what came: a frame, nothing since the input ended between frames, or a fault
abbrev pub IsNext : ℕ → Bool → List ℕ → Option Talk → Result (Option ℕ) SessionFault → Type 0
IsNext limit ahead held now (Ok (Some size)) = HoldsFrame limit ahead held size
IsNext limit ahead held now (Ok None) = (held ≡ []) × HasNone now
IsNext limit ahead held now (Err why) = StopsSo limit held now why

-- ---- what a frame gets

-- the protocol after the first request
abbrev pub protocol_of : Request → Proto
protocol_of request.Hello = Two
protocol_of _ = One

-- how a session ends after a request with this reply
abbrev pub EndsBy : Request → Reply → Option Ended → Type 0
EndsBy asked told (Some ended.Bye) = asked ≡ request.Bye
EndsBy asked told (Some ended.Stop) = (asked ≡ request.Stop) × (told ≡ reply.Done)
EndsBy asked told (Some ended.Quiet) = ⊥
EndsBy asked told (Some ended.Spent) = ⊥
EndsBy asked told None = (asked ≡ request.Bye → ⊥) × ((asked ≡ request.Stop) → (told ≡ reply.Done) → ⊥)

-- how it ends after an exchange
abbrev pub EndsBehind : Exchange → Option Ended → Type 0
EndsBehind exchange (Some ended.Bye) = IsBye exchange
EndsBehind exchange (Some ended.Stop) = IsStop exchange
EndsBehind exchange (Some ended.Quiet) = ⊥
EndsBehind exchange (Some ended.Spent) = ⊥
EndsBehind exchange None = GoesOn exchange

-- the frame is answered so, and the moves after the reply have these bytes
pub record AnswersSo (old : AtDesk) (proto : Proto) (frame : List ℕ) (told : Reply) (bytes : List ℕ)
    (ended : Option Ended) (new : AtDesk) : Type 0 where
  pub moves : List Move
  pub bytes_are : bytes ≡ map number_of moves
  pub serves : ServesFrame old.place proto (record { frame = frame; told = told; moves = moves }) (stands old) (stands new)
  pub ends : EndsBehind (record { frame = frame; told = told; moves = moves }) ended

-- the reply was sent, or a fault met it and less than the whole was sent
abbrev pub SendsSo : Exchange → Option Talk → Option Talk → Result (Option Ended) Failed → Type 0
SendsSo exchange before after (Ok ended) =
    EndsBehind exchange ended × (after ≡ with_sent before (sent_reply exchange.told exchange.moves))
SendsSo exchange before after (Err _) = SendsPrefix before after (sent_reply exchange.told exchange.moves)

-- the frame is answered, and the reply sent
pub record TellsBack (place : Place) (proto : Proto) (frame : List ℕ) (old : Standing) (before : Option Talk)
    (result : Result (Option Ended) Failed)
    (new : Standing) (after : Option Talk) : Type 0 where
  pub exchange : Exchange
  pub frame_is : exchange.frame ≡ frame
  pub serves : ServesFrame place proto exchange old new
  pub sends : SendsSo exchange before after result

-- ---- turns

-- where a session stands between two turns: at a protocol and at a board, in a talk, with bytes that are not used up
pub record Point : Type 0 where
  pub proto : Proto
  pub standing : Standing
  pub talk : Option Talk
  pub held : List ℕ

abbrev pub point : Session → AtDesk → Option Talk → Point
point session desk talk = record { proto = session.proto; standing = stands desk; talk = talk; held = session.held }

-- a frame was cut from what was held and what came in until then, and served
pub record Exchanges (place : Place) (exchange : Exchange) (old : Point) (then : Option Talk) (new : Point) : Type 0 where
  pub serves : ServesFrame place old.proto exchange old.standing new.standing
  pub fits : length exchange.frame ≤ limit_of old.proto
  pub more : List ℕ
  pub takes : Takes old.talk then more
  pub cut : old.held ++ more ≡ sent_request exchange.frame ++ new.held

-- what is held after a frame: at most the length of the next one, and nothing where none may be taken
abbrev pub LeavesSo : Bool → List ℕ → Option Ended → Type 0
LeavesSo ahead now None = (length now ≤ 2) × (IsFalse ahead → now ≡ [])
LeavesSo ahead now (Some _) = now ≡ []

-- a frame was taken and answered
pub record StepsOver (place : Place) (ahead : Bool) (old : Point) (ended : Option Ended) (new : Point) : Type 0 where
  pub exchange : Exchange
  pub then : Option Talk
  pub exchanges : Exchanges place exchange old then new
  pub proto_is : new.proto ≡ protocol_after old.proto exchange.frame
  pub sent : new.talk ≡ with_sent then (sent_reply exchange.told exchange.moves)
  pub ends : EndsBehind exchange ended
  pub leaves : LeavesSo ahead new.held ended

-- a frame was taken, and less than the whole reply was sent
pub record StepsUnsent (place : Place) (old new : Point) : Type 0 where
  pub exchange : Exchange
  pub then : Option Talk
  pub exchanges : Exchanges place exchange old then new
  pub unsent : SendsPrefix then new.talk (sent_reply exchange.told exchange.moves)
  pub begun : length new.held ≤ 2

-- no frame came
pub record StepsNot (old new : Point) : Type 0 where
  pub same : new.standing ≡ old.standing
  pub more : HoldsMore old.talk new.talk old.held new.held

-- a turn, and how the session ends with it, if it does
abbrev pub Steps : Place → Bool → Point → Result (Option Ended) SessionFault → Point → Type 0
Steps place ahead old (Ok (Some ended.Quiet)) new = StepsNot old new × (new.held ≡ []) × HasNone new.talk
Steps place ahead old (Ok ended) new = StepsOver place ahead old ended new
Steps place ahead old (Err fault.WriteFault) new = StepsUnsent place old new
Steps place ahead old (Err why) new = StepsNot old new × StopsSo (limit_of old.proto) new.held new.talk why
