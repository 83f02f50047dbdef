-- What is read of the bytes of a message.
use Rattle.std.specs.Prelude.{◌≡◌, ℕ, List, ◌∷◌, ◌++◌, All, length, map}
use Rattle.moves.specs.declared.Terrain.{Terrain}
use Rattle.moves.specs.Maps.{Map}
use Rattle.edit_log.specs.declared.edit.CellChange.{CellChange}
use Rattle.query_proto.specs.Frames.{change_bytes, changes_bytes, terrain_byte}
use Rattle.follow_proto.specs.Feeds.{Message, IsMessage, IsSent, all_edit_bytes, edit_bytes, frame_bytes}
use Rattle.follow_proto.specs.Feeds.Message.{Start, Edits}

-- the frame is that of the message
abbrev pub Spells : List ℕ → Message → Type 0
Spells frame message = IsMessage message × (frame ≡ frame_bytes message)

-- it is the frame of no map
abbrev pub SpellsNoStart : List ℕ → Type 0
SpellsNoStart frame = (map : Map) → Spells frame (Start map) → ⊥

-- it is the frame of no edits
abbrev pub SpellsNoEdits : List ℕ → Type 0
SpellsNoEdits frame = (known : ℕ) (edits : List (List CellChange)) → Spells frame (Edits known edits) → ⊥

-- no edit stands in front of these bytes
abbrev pub BeginsWithNoEdit : List ℕ → Type 0
BeginsWithNoEdit bytes = (edit : List CellChange) (rest : List ℕ) → IsSent edit → bytes ≡ edit_bytes edit ++ rest → ⊥

-- no change stands in front of these bytes
abbrev pub BeginsWithNoChange : List ℕ → Type 0
BeginsWithNoChange bytes = (change : CellChange) (rest : List ℕ) → bytes ≡ change_bytes change ++ rest → ⊥

-- no changes, so many, stand behind the first of these bytes
abbrev pub LacksChanges : List ℕ → ℕ → Type 0
LacksChanges bytes count =
    (changes : List CellChange) (first : ℕ) (rest : List ℕ) → length changes ≡ count → bytes ≡ first ∷ changes_bytes changes ++ rest → ⊥

-- the bytes are those of so many edits
pub record AreEditsOf (bytes : List ℕ) (count : ℕ) (edits : List (List CellChange)) : Type 0 where
  pub count_is : length edits ≡ count
  pub each : All IsSent edits
  pub bytes_are : bytes ≡ all_edit_bytes edits

-- they are those of no edits, so many
abbrev pub SpellNoEdits : List ℕ → ℕ → Type 0
SpellNoEdits bytes count = (edits : List (List CellChange)) → AreEditsOf bytes count edits → ⊥

-- they are the bytes of no cells
abbrev pub SpellNoTerrain : List ℕ → Type 0
SpellNoTerrain bytes = (terrain : List Terrain) → bytes ≡ map terrain_byte terrain → ⊥
