-- The bytes between a leader and a follower. In every number the highest byte comes first.
--
-- A follower asks for the edits from a place on, and the leader answers each ask with one message. A message is sent
-- after the length of its frame in four bytes.
use Rattle.std.specs.Prelude.{◌≡◌, ℕ, ◌+◌, ◌*◌, ◌^◌, ◌<◌, ◌≤◌, ⊤, List, [], ◌∷◌, ◌++◌, All, length, map}
use Rattle.std.specs.List.{flat_map}
use Rattle.byteorder.specs.Endian.{big_bytes}
use Rattle.moves.specs.Maps.{Map, IsSearchable, IsWithinLimits}
use Rattle.edit_log.specs.declared.edit.CellChange.{CellChange}
use Rattle.query_proto.specs.Frames.{IsEditSize, changes_bytes, terrain_byte}
use Rattle.follow_proto.specs.declared.TheConstants.{MAX_SENT}
use Rattle.follow_proto.specs.declared.kinds.TheConstants as kind

-- what a leader sends
pub data Message : Type 0 where
  -- the map before any edit
  Start : Map → Message
  -- accepted edits, from this place on
  Edits : ℕ → List (List CellChange) → Message
  -- only this many edits were accepted, fewer than the follower said that it has
  Ahead : ℕ → Message
  -- the leader ran out of memory for the edits
  NoMemory : Message

-- an ask: how many edits the follower has
abbrev pub ask_bytes : ℕ → List ℕ
ask_bytes known = kind.ASK ∷ big_bytes 4 known

-- an edit: the number of its changes, and the changes
abbrev pub edit_bytes : List CellChange → List ℕ
edit_bytes edit = length edit ∷ changes_bytes edit

-- edits, one after the other
abbrev pub all_edit_bytes : List (List CellChange) → List ℕ
all_edit_bytes edits = flat_map edit_bytes edits

-- the frame of a message: its kind, and its fields
abbrev pub frame_bytes : Message → List ℕ
frame_bytes (Start m) = kind.START ∷ big_bytes 4 m.width ++ big_bytes 4 m.height ++ map terrain_byte m.terrain
frame_bytes (Edits known edits) = kind.EDITS ∷ big_bytes 4 known ++ big_bytes 4 (length edits) ++ all_edit_bytes edits
frame_bytes (Ahead accepted) = kind.AHEAD ∷ big_bytes 4 accepted
frame_bytes NoMemory = kind.NO_MEMORY ∷ []

-- a message as it is sent: after the length of its frame
abbrev pub message_bytes : Message → List ℕ
message_bytes message = big_bytes 4 (length (frame_bytes message)) ++ frame_bytes message

-- the messages with the map that a feed begins with, with edits from a place on, for a follower that is ahead, and for
-- a leader out of memory
abbrev pub start_bytes : Map → List ℕ
start_bytes map = message_bytes (Start map)

abbrev pub edits_bytes : ℕ → List (List CellChange) → List ℕ
edits_bytes known edits = message_bytes (Edits known edits)

abbrev pub ahead_bytes : ℕ → List ℕ
ahead_bytes accepted = message_bytes (Ahead accepted)

abbrev pub no_memory_bytes : List ℕ
no_memory_bytes = message_bytes NoMemory

-- a map that a board may begin with
pub record IsStartMap (map : Map) : Type 0 where
  pub limits : IsWithinLimits map.width map.height
  pub cells : length map.terrain ≡ map.width * map.height
  pub searchable : IsSearchable map

-- the column and the row of a change have two bytes
abbrev pub HasPlace : CellChange → Type 0
HasPlace change = (change.cell.x < 2 ^ 16) × (change.cell.y < 2 ^ 16)

-- an edit that a message may have
pub record IsSent (edit : List CellChange) : Type 0 where
  pub size : IsEditSize edit
  pub places : All HasPlace edit

-- edits that one message may have
pub record AreSent (edits : List (List CellChange)) : Type 0 where
  pub few : length edits ≤ MAX_SENT
  pub each : All IsSent edits

-- the message may be sent: it has exactly one encoding
abbrev pub IsMessage : Message → Type 0
IsMessage (Start map) = IsStartMap map
IsMessage (Edits known edits) = (known < 2 ^ 32) × AreSent edits
IsMessage (Ahead accepted) = accepted < 2 ^ 32
IsMessage NoMemory = ⊤

-- the bytes are those of the message with a map of this size, up to the bytes of its cells
abbrev pub HasHead : ℕ → ℕ → List ℕ → Type 0
HasHead width height bytes = (m : Map) → m.width ≡ width → m.height ≡ height → length m.terrain ≡ width * height
    → bytes ++ map terrain_byte m.terrain ≡ start_bytes m
