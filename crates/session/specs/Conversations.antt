-- A session over a link: how what comes in is cut into frames, what each gets, and how it ends.
use Rattle.std.specs.Prelude.{◌≡◌, ◌⊎◌, ℕ, ◌+◌, ◌<◌, ◌≤◌, All, Err, IfSome, List, MatchOption, None, Ok, Option, Result, Some, [], ◌∷◌, ◌++◌, cond, length, take}
use Rattle.std.specs.Io.{StartsWith}
use Rattle.std.specs.List.{flat_map, fold}
use Rattle.std.specs.Str.{bytes_eq}
use Rattle.byteorder.specs.Endian.{big_bytes}
use Rattle.moves.specs.declared.Move.{Move}
use Rattle.query_proto.specs.declared.malformed.Malformed.{Malformed}
use Rattle.query_proto.specs.declared.protocols.Proto.{Proto}
use Rattle.query_proto.specs.declared.protocols.Proto.TheVariants.{Start, One, Two}
use Rattle.query_proto.specs.declared.replies.Reply.{Reply}
use Rattle.query_proto.specs.declared.replies.Reply.TheVariants as reply
use Rattle.query_proto.specs.declared.requests.Request.{Request}
use Rattle.query_proto.specs.declared.requests.Request.TheVariants as request
use Rattle.query_proto.specs.Frames.{IsNoRequest, IsRequestFrame, limit_of, request_bytes, sent_reply, sent_request}
use Rattle.wire.specs.Talks.{Talk, with_sent, with_taken, AtLink, ReadFails, WriteFails}
use Rattle.session.specs.declared.sessions.TheConstants.{MAX_REQUESTS}
use Rattle.session.specs.declared.sessions.Ended.{Ended}
use Rattle.session.specs.declared.sessions.Ended.TheVariants as ended
use Rattle.session.specs.declared.sessions.SessionFault.{SessionFault}
use Rattle.session.specs.declared.sessions.SessionFault.TheVariants as fault
use Rattle.session.specs.Served.{ServesRequest}
use Rattle.session.specs.Standing.{HoldsSince, Meanwhile, Place, Standing}

-- ---- what frames get

-- a frame that was taken, and what was told for it
pub record Exchange : Type 0 where
  pub frame : List ℕ
  pub told : Reply
  pub moves : List Move

-- the frame spells a request of the protocol, which is served so
pub record ServesSpelled (place : Place) (proto : Proto) (exchange : Exchange) (old new : Standing) : Type 0 where
  pub asked : Request
  pub spells : IsRequestFrame proto asked exchange.frame
  pub serves : ServesRequest place asked old exchange.told exchange.moves new

-- it spells none, and that is told
pub record TellsMalformed (proto : Proto) (exchange : Exchange) (old new : Standing) : Type 0 where
  pub what : Malformed
  pub none : IsNoRequest proto exchange.frame what
  pub told_is : exchange.told ≡ reply.Malformed what.kind what.length
  pub moves_are : exchange.moves ≡ []
  pub same : new ≡ old

-- what a frame gets, which is read at a protocol
abbrev pub ServesFrame : Place → Proto → Exchange → Standing → Standing → Type 0
ServesFrame place proto exchange old new =
    ServesSpelled place proto exchange old new ⊎ TellsMalformed proto exchange old new

-- the protocol after a frame: the second one where the first frame is a Hello, and where it is another one the first
abbrev pub protocol_after : Proto → List ℕ → Proto
protocol_after Start frame = cond (bytes_eq frame (request_bytes request.Hello)) Two One
protocol_after One frame = One
protocol_after Two frame = Two

-- the protocol after the frames of a session
abbrev pub protocol_behind : List Exchange → Proto
protocol_behind exchanges = fold (λ proto (exchange : Exchange). protocol_after proto exchange.frame) Start exchanges

-- told looks are not fewer than before
abbrev pub NoFewer : Option ℕ → Option ℕ → Type 0
NoFewer before after = MatchOption before (after ≡ None) (λ count. (more : ℕ) × (after ≡ Some more) × (count ≤ more))

-- nothing more was asked: others may have added entries, and the pass may have looked
pub record Rests (place : Place) (old new : Standing) : Type 0 where
  pub others : Meanwhile place old.seen new.seen
  pub holds : HoldsSince old new
  pub looks : NoFewer old.looks new.looks

-- A SERVED RUN: one exchange after the other, through points of one history, each frame within the limit of the
-- protocol that stands there, and read at it; others may add entries after the last
abbrev pub ServesRun : Place → Proto → Standing → List Exchange → Standing → Type 0
ServesRun place proto old [] new = Rests place old new
ServesRun place proto old (exchange ∷ rest) new =
    (point : Standing) × (length exchange.frame ≤ limit_of proto) × ServesFrame place proto exchange old point
    × ServesRun place (protocol_after proto exchange.frame) point rest new

-- ---- bytes

-- the frames as they came in, each after its length
abbrev pub bytes_taken : List Exchange → List ℕ
bytes_taken exchanges = flat_map (λ (exchange : Exchange). sent_request exchange.frame) exchanges

-- the replies as they are sent, each with its moves
abbrev pub bytes_sent : List Exchange → List ℕ
bytes_sent exchanges = flat_map (λ (exchange : Exchange). sent_reply exchange.told exchange.moves) exchanges

-- these bytes were taken of what was left, and these were sent (nothing is said where the talk is not told)
pub record Passes (before after : Option Talk) (taken sent : List ℕ) : Type 0 where
  pub front : IfSome before (λ talk. StartsWith talk.left taken)
  pub after_is : after ≡ with_sent (with_taken before (length taken)) sent

-- nothing is left to come in
abbrev pub HasNone : Option Talk → Type 0
HasNone told = IfSome told (λ talk. talk.left ≡ [])

-- a part of a frame within the limit, which needs this many bytes: one byte of its length, or its length and fewer
-- bytes than that says
abbrev pub IsPart : ℕ → List ℕ → ℕ → Type 0
IsPart limit last want = ((length last ≡ 1) × (want ≡ 2))
    ⊎ ((size : ℕ) × (size ≤ limit) × (take 2 last ≡ big_bytes 2 size) × (2 ≤ length last)
    × (want ≡ 2 + size) × (length last < want))

-- nothing, or a part of a frame
abbrev pub IsBegun : ℕ → List ℕ → Type 0
IsBegun limit last = (last ≡ []) ⊎ ((want : ℕ) × IsPart limit last want)

-- the bytes of a text except for its last ones: at least one is missing
pub record IsProperPrefix (text part : List ℕ) : Type 0 where
  pub rest : List ℕ
  pub is : text ≡ part ++ rest
  pub some : 0 < length rest

-- ---- how a session ends

-- the frame spells a Bye, which every protocol has
abbrev pub IsBye : Exchange → Type 0
IsBye exchange = exchange.frame ≡ request_bytes request.Bye

-- the frame spells a Stop, which every protocol has, and it was done
abbrev pub IsStop : Exchange → Type 0
IsStop exchange = (exchange.frame ≡ request_bytes request.Stop) × (exchange.told ≡ reply.Done)

-- the session goes on after it
pub record GoesOn (exchange : Exchange) : Type 0 where
  pub no_bye : IsBye exchange → ⊥
  pub no_stop : IsStop exchange → ⊥

-- the session goes on after all of these, and further frames may be taken
pub record GoOn (exchanges : List Exchange) : Type 0 where
  pub all : All GoesOn exchanges
  pub fewer : length exchanges < MAX_REQUESTS

-- these exchanges end with one, and the session went on after all others
pub record EndsWith (exchanges front : List Exchange) (end : Exchange) : Type 0 where
  pub is : exchanges ≡ front ++ end ∷ []
  pub all : All GoesOn front

-- all replies were sent, and nothing was taken after the frames
pub record IsEven (exchanges : List Exchange) (last sent : List ℕ) : Type 0 where
  pub none : last ≡ []
  pub all : sent ≡ bytes_sent exchanges

-- the session ends after a Bye
pub record EndsByBye (exchanges : List Exchange) (last sent : List ℕ) : Type 0 where
  pub front : List Exchange
  pub end : Exchange
  pub ends : EndsWith exchanges front end
  pub bye : IsBye end
  pub even : IsEven exchanges last sent

-- the session ends after a Stop that was done
pub record EndsByStop (exchanges : List Exchange) (last sent : List ℕ) : Type 0 where
  pub front : List Exchange
  pub end : Exchange
  pub ends : EndsWith exchanges front end
  pub stop : IsStop end
  pub even : IsEven exchanges last sent

-- The input ended inside a frame, of which these bytes were taken; this many are held and this many needed, both with
-- those of the length.
pub record EndsTorn (exchanges : List Exchange) (last sent : List ℕ) (after : Option Talk)
    (have want : ℕ) : Type 0 where
  pub on : GoOn exchanges
  pub have_is : have ≡ length last
  pub part : IsPart (limit_of (protocol_behind exchanges)) last want
  pub none : HasNone after
  pub all : sent ≡ bytes_sent exchanges

-- a length above the limit of the protocol was taken, and nothing after it
pub record EndsTooLong (exchanges : List Exchange) (last sent : List ℕ) (size : ℕ) : Type 0 where
  pub on : GoOn exchanges
  pub above : limit_of (protocol_behind exchanges) < size
  pub last_is : last ≡ big_bytes 2 size
  pub all : sent ≡ bytes_sent exchanges

-- the link failed while a frame was to come in: all whole frames were answered
pub record EndsUnread (exchanges : List Exchange) (last sent : List ℕ) : Type 0 where
  pub on : GoOn exchanges
  pub begun : IsBegun (limit_of (protocol_behind exchanges)) last
  pub all : sent ≡ bytes_sent exchanges

-- The link failed while a reply was sent: the replies before it were sent, and less than the whole of it. No more than the
-- length of a next frame was taken.
pub record EndsUnsent (exchanges : List Exchange) (last sent : List ℕ) : Type 0 where
  pub front : List Exchange
  pub end : Exchange
  pub ends : EndsWith exchanges front end
  pub ahead : length last ≤ 2
  pub part : List ℕ
  pub sent_is : sent ≡ bytes_sent front ++ part
  pub unsent : IsProperPrefix (sent_reply end.told end.moves) part

-- HOW A SESSION ENDS after these exchanges: `last` was taken after the whole frames, and these bytes were sent
abbrev pub EndsSo : List Exchange → List ℕ → List ℕ → Option Talk → Result Ended SessionFault → Type 0
EndsSo exchanges last sent after (Ok ended.Spent) =
    All GoesOn exchanges × (length exchanges ≡ MAX_REQUESTS) × IsEven exchanges last sent
EndsSo exchanges last sent after (Ok ended.Quiet) = GoOn exchanges × IsEven exchanges last sent × HasNone after
EndsSo exchanges last sent after (Ok ended.Bye) = EndsByBye exchanges last sent
EndsSo exchanges last sent after (Ok ended.Stop) = EndsByStop exchanges last sent
EndsSo exchanges last sent after (Err (fault.Torn have want)) = EndsTorn exchanges last sent after have want
EndsSo exchanges last sent after (Err (fault.TooLong size)) = EndsTooLong exchanges last sent size
EndsSo exchanges last sent after (Err fault.ReadFault) = EndsUnread exchanges last sent
EndsSo exchanges last sent after (Err fault.WriteFault) = EndsUnsent exchanges last sent

-- A CONVERSATION, which begins at Start: the frames that were taken, each served, the bytes that were taken and sent, and
-- the end
pub record Conversed (place : Place) (old : Standing) (before : Option Talk) (result : Result Ended SessionFault)
    (new : Standing) (after : Option Talk) : Type 0 where
  pub exchanges : List Exchange
  pub last : List ℕ
  pub sent : List ℕ
  pub serves : ServesRun place Start old exchanges new
  pub few : length exchanges ≤ MAX_REQUESTS
  pub passes : Passes before after (bytes_taken exchanges ++ last) sent
  pub ends : EndsSo exchanges last sent after result

-- a fault of the link has its cause in the count of its direction
abbrev pub HasCause : AtLink → AtLink → SessionFault → Type 0
HasCause before after fault.ReadFault = ReadFails before after
HasCause before after fault.WriteFault = WriteFails before after
HasCause before after _ = Unit {0}
