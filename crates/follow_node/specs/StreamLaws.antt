-- Laws of followers.
use Rattle.std.specs.Prelude.{◌≡◌, ℕ, List, ◌++◌}
use Rattle.follow_proto.specs.Feeds.{Message}
use Rattle.follow_node.specs.Reading.{Spells}
use Rattle.follow_node.specs.Streams.{Following, Took}

-- the bytes of one piece and then those of the next are the bytes of both
abbrev pub PiecesJoin : Type 0
PiecesJoin = (before mid after : Following) (one other : List ℕ) → Took before one mid → Took mid other after → Took before (one ++ other) after

-- a frame spells one message at most
abbrev pub FramesSpellOneMessage : Type 0
FramesSpellOneMessage = (frame : List ℕ) (one other : Message) → Spells frame one → Spells frame other → one ≡ other

-- one follower alone comes of the bytes
abbrev pub BytesDecide : Type 0
BytesDecide = (before after other : Following) (bytes : List ℕ) → Took before bytes after → Took before bytes other → after ≡ other
