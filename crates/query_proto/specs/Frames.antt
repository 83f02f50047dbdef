-- Frames: how a request or a reply is encoded in bytes. Every number has its highest byte first.
use Rattle.std.specs.Prelude.{◌≡◌, ◌≢◌, ℕ, ◌+◌, ◌*◌, ◌<◌, ◌≤◌, ⊤, Bool, Option, MatchOption, cond, List, [], ◌∷◌, ◌++◌, drop, length, map, slice_index_or}
use Rattle.std.specs.List.{flat_map}
use Rattle.byteorder.specs.Endian.{big_bytes}
use Rattle.root_cost.specs.declared.Cost.{Cost}
use Rattle.moves.specs.declared.Cell.{Cell}
use Rattle.moves.specs.declared.Move.{Move}
use Rattle.moves.specs.declared.Terrain.{Terrain}
use Rattle.moves.specs.declared.Terrain.TheVariants.{Blocked, Land, Water}
use Rattle.moves.specs.Moves.{number_of}
use Rattle.moves.specs.Paths.{cost_of}
use Rattle.edit_log.specs.declared.TheConstants.{MAX_CHANGES}
use Rattle.edit_log.specs.declared.edit.CellChange.{CellChange}
use Rattle.edit_log.specs.declared.verdict.EditRefusal.{EditRefusal}
use Rattle.edit_log.specs.declared.verdict.EditRefusal.TheVariants.{Outside, TooManyCells, EditsFull, Repeated}
use Rattle.query_proto.specs.declared.TheConstants.{MAX_MOVES, MAX_REQUEST}
use Rattle.query_proto.specs.declared.kinds.TheConstants as kind
use Rattle.query_proto.specs.declared.malformed.Malformed.{Malformed}
use Rattle.query_proto.specs.declared.protocols.TheConstants.{FIRST_LIMIT}
use Rattle.query_proto.specs.declared.protocols.Proto.{Proto}
use Rattle.query_proto.specs.declared.protocols.Proto.TheVariants.{Start, One, Two}
use Rattle.query_proto.specs.declared.replies.Reply.{Reply}
use Rattle.query_proto.specs.declared.replies.Reply.TheVariants as reply
use Rattle.query_proto.specs.declared.requests.Request.{Request}
use Rattle.query_proto.specs.declared.requests.Request.TheVariants as request

-- a cell: its column and its row, two bytes each
abbrev pub cell_bytes : Cell → List ℕ
cell_bytes cell = big_bytes 2 cell.x ++ big_bytes 2 cell.y

-- a byte for true or false
abbrev pub flag_byte : Bool → ℕ
flag_byte flag = cond flag 1 0

-- a terrain
abbrev pub terrain_byte : Terrain → ℕ
terrain_byte Blocked = 0
terrain_byte Land = 1
terrain_byte Water = 2

-- a change: its cell, and the new terrain
abbrev pub change_bytes : CellChange → List ℕ
change_bytes change = cell_bytes change.cell ++ terrain_byte change.terrain ∷ []

-- changes, one after the other
abbrev pub changes_bytes : List CellChange → List ℕ
changes_bytes changes = flat_map change_bytes changes

-- the frame of an edit: its one change, or several after their number
abbrev pub edit_bytes : List CellChange → List ℕ
edit_bytes (change ∷ []) = kind.CHANGE ∷ change_bytes change
edit_bytes changes = kind.CHANGES ∷ length changes ∷ changes_bytes changes

-- The frame of a request: its kind, and its fields. Each request has one encoding, in every protocol.
abbrev pub request_bytes : Request → List ℕ
request_bytes (request.Query start goal) = kind.QUERY ∷ cell_bytes start ++ cell_bytes goal
request_bytes (request.Change edit) = edit_bytes edit
request_bytes request.Build = kind.BUILD ∷ []
request_bytes request.Status = kind.STATUS ∷ []
request_bytes request.Bye = kind.BYE ∷ []
request_bytes request.Stop = kind.STOP ∷ []
request_bytes request.Hello = kind.HELLO ∷ kind.SECOND ∷ []

-- the most bytes that the frame of a request may have in a protocol
abbrev pub limit_of : Proto → ℕ
limit_of Start = FIRST_LIMIT
limit_of One = FIRST_LIMIT
limit_of Two = MAX_REQUEST

-- no more changes than an edit may have
abbrev pub IsEditSize : List CellChange → Type 0
IsEditSize changes = (1 ≤ length changes) × (length changes ≤ MAX_CHANGES)

-- one cell changes, to blocked or land
abbrev pub IsPlainEdit : List CellChange → Type 0
IsPlainEdit (change ∷ []) = change.terrain ≢ Water
IsPlainEdit _ = ⊥

-- the second protocol has every edit, the first one only plain edits
abbrev pub FitsEdit : Proto → List CellChange → Type 0
FitsEdit Two changes = IsEditSize changes
FitsEdit _ changes = IsPlainEdit changes

-- the protocol has the request; a Hello comes first or never
abbrev pub Fits : Proto → Request → Type 0
Fits proto (request.Change edit) = FitsEdit proto edit
Fits proto request.Hello = proto ≡ Start
Fits proto _ = ⊤

-- some protocol has the request
abbrev pub HasFrame : Request → Type 0
HasFrame (request.Change edit) = IsEditSize edit
HasFrame _ = ⊤

-- the frame of a request at a protocol
abbrev pub IsRequestFrame : Proto → Request → List ℕ → Type 0
IsRequestFrame proto request frame = Fits proto request × (frame ≡ request_bytes request)

-- the number of a refusal of an edit
abbrev pub refusal_byte : EditRefusal → ℕ
refusal_byte Outside = 1
refusal_byte TooManyCells = 2
refusal_byte EditsFull = 3
refusal_byte Repeated = 4

-- the state of a board without its runs
abbrev pub status_front : ℕ → ℕ → ℕ → ℕ → List ℕ
status_front version accepted cells comps =
    kind.BOARD ∷ big_bytes 4 version ++ big_bytes 4 accepted ++ big_bytes 4 cells ++ big_bytes 4 comps

-- the frame of a reply without the moves of a path: its kind, and its fields
abbrev pub head_bytes : Reply → List ℕ
head_bytes (reply.Path version cost) =
    kind.PATH ∷ big_bytes 4 version ++ big_bytes 4 cost.straight ++ big_bytes 4 cost.diagonal
head_bytes (reply.Unreachable version) = kind.UNREACHABLE ∷ big_bytes 4 version
head_bytes (reply.Refused version why) =
    kind.REFUSED ∷ big_bytes 4 version ++ (1 + flag_byte why.blocked) ∷ flag_byte why.goal ∷ []
head_bytes (reply.Accepted number) = kind.ACCEPTED ∷ big_bytes 4 number
head_bytes (reply.EditRefused why) = kind.EDIT_REFUSED ∷ refusal_byte why ∷ []
head_bytes (reply.Published prefix built kept) =
    kind.PUBLISHED ∷ big_bytes 4 prefix ++ big_bytes 4 built ++ big_bytes 4 kept
head_bytes (reply.NothingNew prefix) = kind.NOTHING_NEW ∷ big_bytes 4 prefix
head_bytes (reply.Overtaken by) = kind.OVERTAKEN ∷ big_bytes 4 by
head_bytes (reply.Status version accepted cells comps runs) =
    kind.BOARD ∷ big_bytes 4 version ++ big_bytes 4 accepted ++ big_bytes 4 cells ++ big_bytes 4 comps ++ big_bytes 8 runs
head_bytes reply.Done = kind.DONE ∷ []
head_bytes (reply.Malformed frame_kind frame_length) = kind.MALFORMED ∷ frame_kind ∷ big_bytes 2 frame_length
head_bytes reply.NoMemory = kind.NO_MEMORY ∷ []
head_bytes reply.Welcome = kind.WELCOME ∷ kind.SECOND ∷ []

-- the first byte of the frame of a reply
abbrev pub kind_of : Reply → ℕ
kind_of reply = slice_index_or (head_bytes reply) 0 0

-- the moves that follow the head of a reply: those of a path, whose cost it states; no other reply has any
abbrev pub AreMovesOf : Reply → List Move → Type 0
AreMovesOf (reply.Path version cost) moves = (cost_of moves ≡ cost) × (length moves ≤ MAX_MOVES)
AreMovesOf _ moves = moves ≡ []

-- the frame of a reply with these moves
abbrev pub reply_frame : Reply → List Move → List ℕ
reply_frame reply moves = head_bytes reply ++ map number_of moves

-- the frame of a reply
abbrev pub IsReplyFrame : Reply → List ℕ → Type 0
IsReplyFrame reply frame = (moves : List Move) × AreMovesOf reply moves × (frame ≡ reply_frame reply moves)

-- a frame that encodes nothing is identified by its first byte, 0 for an empty frame, and its length
abbrev pub IsToldOf : List ℕ → Malformed → Type 0
IsToldOf frame malformed = (malformed.kind ≡ slice_index_or frame 0 0) × (malformed.length ≡ length frame)

-- no request of the protocol has this frame
pub record IsNoRequest (proto : Proto) (frame : List ℕ) (malformed : Malformed) : Type 0 where
  pub told : IsToldOf frame malformed
  pub none : (request : Request) → IsRequestFrame proto request frame → ⊥

-- no reply has this frame
pub record IsNoReply (frame : List ℕ) (malformed : Malformed) : Type 0 where
  pub told : IsToldOf frame malformed
  pub none : (reply : Reply) → IsReplyFrame reply frame → ⊥

-- the frame of a request as it is sent: after its length in two bytes
abbrev pub sent_request : List ℕ → List ℕ
sent_request frame = big_bytes 2 (length frame) ++ frame

-- a reply as it is sent, with its moves: after the length of its frame in four bytes
abbrev pub sent_reply : Reply → List Move → List ℕ
sent_reply reply moves = big_bytes 4 (length (reply_frame reply moves)) ++ reply_frame reply moves

-- these bytes fill the front of a piece, their number is the count, and everything after them is unchanged
abbrev pub StandsAtFront : List ℕ → List ℕ → List ℕ → ℕ → Type 0
StandsAtFront bytes before after count = (count ≡ length bytes) × (after ≡ bytes ++ drop count before)

-- these bytes were written at this place, right after those already at the front of a piece
abbrev pub GrowsFront : List ℕ → ℕ → List ℕ → List ℕ → ℕ → Type 0
GrowsFront bytes at before after next = (front first : List ℕ)
    → StandsAtFront front first before at → StandsAtFront (front ++ bytes) first after next

-- the request as it is sent stands at the front
abbrev pub RequestAtFront : Request → List ℕ → List ℕ → ℕ → Type 0
RequestAtFront request before after count = StandsAtFront (sent_request (request_bytes request)) before after count

-- what is read from a frame: the request of the protocol that it encodes, or none if it encodes none
abbrev pub IsRequestRead : Proto → List ℕ → Option Request → Type 0
IsRequestRead proto frame found = MatchOption found
    ((request : Request) → IsRequestFrame proto request frame → ⊥)
    (λ request. IsRequestFrame proto request frame)

-- what is read from a frame, in any protocol
abbrev pub IsRequestSpelled : List ℕ → Option Request → Type 0
IsRequestSpelled frame found = MatchOption found
    ((request : Request) → HasFrame request → frame ≡ request_bytes request → ⊥)
    (λ request. HasFrame request × (frame ≡ request_bytes request))

-- a frame with this many changes, by their number and by its length
pub record CountsChanges (frame : List ℕ) (count : ℕ) : Type 0 where
  pub several : 2 ≤ count
  pub few : count ≤ MAX_CHANGES
  pub told : drop 1 frame ≡ count ∷ drop 2 frame
  pub long : length frame ≡ 2 + 5 * count

-- the frame does not have the length and number of any changes
abbrev pub CountsNoChanges : List ℕ → Type 0
CountsNoChanges frame = (count : ℕ) → CountsChanges frame count → ⊥

-- no changes have these bytes
abbrev pub SpellsNoChanges : List ℕ → Type 0
SpellsNoChanges bytes = (changes : List CellChange) → bytes ≡ changes_bytes changes → ⊥

-- these bytes do not begin with a change
abbrev pub BeginsWithNoChange : List ℕ → Type 0
BeginsWithNoChange bytes = (change : CellChange) (rest : List ℕ) → bytes ≡ change_bytes change ++ rest → ⊥

-- the terrain with this number, or none if no terrain has it
abbrev pub IsTerrainOf : ℕ → Option Terrain → Type 0
IsTerrainOf byte found = MatchOption found (2 < byte) (λ terrain. byte ≡ terrain_byte terrain)

-- what is read from a frame: the reply that it encodes, or none if it encodes none
abbrev pub IsReplyRead : List ℕ → Option Reply → Type 0
IsReplyRead frame found =
    MatchOption found ((reply : Reply) → IsReplyFrame reply frame → ⊥) (λ reply. IsReplyFrame reply frame)

-- the cost of these bytes as moves, or none if one of them is not the number of a move
abbrev pub IsSpelledCost : List ℕ → Option Cost → Type 0
IsSpelledCost bytes found = MatchOption found
    ((moves : List Move) → bytes ≡ map number_of moves → ⊥)
    (λ cost. (moves : List Move) × (bytes ≡ map number_of moves) × (cost_of moves ≡ cost))

-- the refusal with this number, or none if no refusal has it
abbrev pub IsRefusalOf : ℕ → Option EditRefusal → Type 0
IsRefusalOf byte found = MatchOption found ((why : EditRefusal) → byte ≡ refusal_byte why → ⊥) (λ why. byte ≡ refusal_byte why)

-- the truth value of this byte, or none if it is neither 0 nor 1
abbrev pub IsFlagOf : ℕ → Option Bool → Type 0
IsFlagOf byte found = MatchOption found (1 < byte) (λ flag. byte ≡ flag_byte flag)

-- how many moves follow the head of a reply
abbrev pub moves_behind : Reply → ℕ
moves_behind (reply.Path version cost) = cost.straight + cost.diagonal
moves_behind _ = 0

-- a reply has no more moves than a path can have
abbrev pub CanBeSent : Reply → Type 0
CanBeSent reply = moves_behind reply ≤ MAX_MOVES

-- a reply as it is sent, without the moves of a path, which its length counts
abbrev pub sent_head : Reply → List ℕ
sent_head reply = big_bytes 4 (length (head_bytes reply) + moves_behind reply) ++ head_bytes reply

-- the head of a reply, as it is sent, stands at the front
abbrev pub HeadAtFront : Reply → List ℕ → List ℕ → ℕ → Type 0
HeadAtFront reply before after count = StandsAtFront (sent_head reply) before after count
