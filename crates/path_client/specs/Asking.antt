-- Asking: what a client sends over a link, what it takes from it, and what it receives.
use Rattle.std.specs.Prelude.{ℕ, ◌≡◌, ◌≢◌, ◌⊎◌, ◌^◌, ◌<◌, ◌≤◌, List, [], ◌++◌, length, take, map, Option, Result, Ok, Err, IfOk, IfErr, IsErrOf}
use Rattle.byteorder.specs.Endian.{big_bytes}
use Rattle.moves.specs.declared.Move.{Move}
use Rattle.moves.specs.Moves.{number_of}
use Rattle.query_proto.specs.declared.TheConstants.{MAX_REPLY}
use Rattle.query_proto.specs.declared.replies.Reply.{Reply}
use Rattle.query_proto.specs.declared.replies.Reply.TheVariants as reply
use Rattle.query_proto.specs.declared.protocols.Proto.TheVariants.{One}
use Rattle.query_proto.specs.declared.requests.Request.{Request}
use Rattle.query_proto.specs.declared.requests.Request.TheVariants.{Hello}
use Rattle.query_proto.specs.Frames.{AreMovesOf, Fits, IsReplyFrame, kind_of, reply_frame, request_bytes, sent_reply, sent_request}
use Rattle.wire.specs.Talks.{Talk, with_sent, with_taken, SendsPrefix}
use Rattle.path_client.specs.declared.fault.ClientFault.{ClientFault}
use Rattle.path_client.specs.declared.fault.ClientFault.TheVariants.{Malformed, Closed, ReadFault, WriteFault, OldServer, NoMemory}
use Rattle.path_client.specs.declared.heard.Heard.{Heard}
use Rattle.path_client.specs.Taking.{BeginsLeft, NothingLeft, Takes}

-- these bytes were sent, and these were taken from what was left, and no byte more
pub record Passes (before after : Option Talk) (taken sent : List ℕ) : Type 0 where
  pub front : BeginsLeft before taken
  pub moved : after ≡ with_sent (with_taken before (length taken)) sent

-- the answer that was received: these bytes are the frame of the reply and its moves, after its length
pub record Hears (taken : List ℕ) (reply : Reply) (moves : List Move) : Type 0 where
  pub are : AreMovesOf reply moves
  pub is : taken ≡ sent_reply reply moves

-- the length of a frame that some reply may have
pub record IsSize (taken : List ℕ) : Type 0 where
  pub size : ℕ
  pub is : taken ≡ big_bytes 4 size
  pub allowed : size ≤ MAX_REPLY

-- the length of a frame that no reply has
pub record IsTooLong (taken : List ℕ) : Type 0 where
  pub size : ℕ
  pub is : taken ≡ big_bytes 4 size
  pub fits : size < 2 ^ 32
  pub long : MAX_REPLY < size

-- a whole frame after its length, which is not the frame of any reply
pub record SpellsNoReply (taken : List ℕ) : Type 0 where
  pub frame : List ℕ
  pub is : taken ≡ big_bytes 4 (length frame) ++ frame
  pub allowed : length frame ≤ MAX_REPLY
  pub none : (reply : Reply) → IsReplyFrame reply frame → ⊥

-- a whole answer
pub record IsAnswer (taken : List ℕ) : Type 0 where
  pub reply : Reply
  pub moves : List Move
  pub hears : Hears taken reply moves

-- part of a frame after its length, which is longer than that part
pub record IsTornFrame (taken : List ℕ) : Type 0 where
  pub size : ℕ
  pub part : List ℕ
  pub is : taken ≡ big_bytes 4 size ++ part
  pub allowed : size ≤ MAX_REPLY
  pub fewer : length part < size

-- part of an answer: fewer bytes than its length has, or part of the frame after it
abbrev pub IsTorn : List ℕ → Type 0
IsTorn taken = (length taken < 4) ⊎ IsTornFrame taken

-- why no answer was received, by what was taken
abbrev pub NotHeard : List ℕ → Option Talk → ClientFault → Type 0
NotHeard taken after Malformed = IsTooLong taken ⊎ SpellsNoReply taken
NotHeard taken after (Closed have) = (have ≡ length taken) × IsTorn taken × NothingLeft after
NotHeard taken after ReadFault = IsTorn taken
NotHeard taken after WriteFault = taken ≡ []
NotHeard taken after (OldServer kind) = ⊥
NotHeard taken after NoMemory = IsSize taken ⊎ IsAnswer taken

-- a first part of the text, less than the whole
abbrev pub IsFirstPart : List ℕ → List ℕ → Type 0
IsFirstPart part text = (count : ℕ) × (count < length text) × (part ≡ take count text)

-- A request is sent whole and once, unless writing fails; then an answer is taken, if it is allowed and comes in whole,
-- and no byte more.
pub record Exchanged (request : Request) (before : Option Talk) (result : Result Heard ClientFault)
    (after : Option Talk) : Type 0 where
  pub taken : List ℕ
  pub sent : List ℕ
  pub passes : Passes before after taken sent
  pub whole : (IsErrOf result WriteFault → ⊥) → sent ≡ sent_request (request_bytes request)
  pub part : IsErrOf result WriteFault → IsFirstPart sent (sent_request (request_bytes request))
  pub heard : IfOk result (λ heard. Hears taken heard.reply heard.moves)
  pub fault : IfErr result (NotHeard taken after)

-- Welcome answered a Hello
pub record IsGreeted (before after : Option Talk) : Type 0 where
  pub heard : Heard
  pub greeted : Exchanged Hello before (Ok heard) after
  pub welcome : heard.reply ≡ reply.Welcome

-- another reply answered a Hello, and its first byte is told
pub record IsGreetedByOld (before after : Option Talk) (fault : ClientFault) : Type 0 where
  pub heard : Heard
  pub greeted : Exchanged Hello before (Ok heard) after
  pub other : heard.reply ≢ reply.Welcome
  pub told : fault ≡ OldServer (kind_of heard.reply)

-- why Welcome did not answer a Hello: no answer was received, or another one
abbrev pub IsNotGreeted : Option Talk → Option Talk → ClientFault → Type 0
IsNotGreeted before after fault = Exchanged Hello before (Err fault) after ⊎ IsGreetedByOld before after fault

-- Welcome answered a Hello, and the request was sent after it
pub record IsAskedBehind (request : Request) (before : Option Talk) (result : Result Heard ClientFault)
    (after : Option Talk) : Type 0 where
  pub between : Option Talk
  pub greeted : IsGreeted before between
  pub asked : Exchanged request between result after

-- Welcome did not answer a Hello, and the request was not sent
pub record IsNotAsked (before : Option Talk) (result : Result Heard ClientFault) (after : Option Talk) : Type 0 where
  pub fault : ClientFault
  pub is : result ≡ Err fault
  pub why : IsNotGreeted before after fault

-- A request is sent at once if the first protocol has it, else after a Hello that Welcome answers.
pub record Asked (request : Request) (before : Option Talk) (result : Result Heard ClientFault)
    (after : Option Talk) : Type 0 where
  pub first : Fits One request → Exchanged request before result after
  pub second : (Fits One request → ⊥) → IsAskedBehind request before result after ⊎ IsNotAsked before result after

-- the request was sent whole and once
abbrev pub SendsRequest : Request → Option Talk → Option Talk → Type 0
SendsRequest request before after = after ≡ with_sent before (sent_request (request_bytes request))

-- less than the whole request was sent
abbrev pub SendsRequestPart : Request → Option Talk → Option Talk → Type 0
SendsRequestPart request before after = SendsPrefix before after (sent_request (request_bytes request))

-- the length of a frame was taken that some reply may have
pub record TakesSize (before after : Option Talk) (size : ℕ) : Type 0 where
  pub takes : Takes before after (big_bytes 4 size)
  pub allowed : size ≤ MAX_REPLY

-- an answer was taken and received
pub record HearsFrom (before after : Option Talk) (reply : Reply) (moves : List Move) : Type 0 where
  pub taken : List ℕ
  pub takes : Takes before after taken
  pub hears : Hears taken reply moves

-- no answer was received, because memory ran out or because of what came in
pub record HearsNothing (before after : Option Talk) (fault : ClientFault) : Type 0 where
  pub taken : List ℕ
  pub takes : Takes before after taken
  pub why : NotHeard taken after fault
  pub listens : fault ≡ WriteFault → ⊥

-- the reply and its moves with this frame
pub record IsHeardIn (frame : List ℕ) (reply : Reply) (moves : List Move) : Type 0 where
  pub are : AreMovesOf reply moves
  pub is : frame ≡ reply_frame reply moves

-- why a whole frame gives no answer: it is not that of any reply, or memory for the moves ran out
abbrev pub NotHeardIn : List ℕ → ClientFault → Type 0
NotHeardIn frame Malformed = (reply : Reply) → IsReplyFrame reply frame → ⊥
NotHeardIn frame NoMemory = (reply : Reply) × IsReplyFrame reply frame
NotHeardIn frame (Closed have) = ⊥
NotHeardIn frame ReadFault = ⊥
NotHeardIn frame WriteFault = ⊥
NotHeardIn frame (OldServer kind) = ⊥

-- the bytes are the numbers of moves
pub record AreNumbers (bytes : List ℕ) : Type 0 where
  pub moves : List Move
  pub are : bytes ≡ map number_of moves
