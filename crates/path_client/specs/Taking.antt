-- Taking: which bytes were taken from a talk, and why no more.
use Rattle.std.specs.Prelude.{ℕ, ◌≡◌, ◌+◌, ◌<◌, List, [], ◌++◌, length, drop, Option, IfSome, ⊤}
use Rattle.wire.specs.Talks.{Talk, with_taken}
use Rattle.path_client.specs.declared.fault.ClientFault.{ClientFault}
use Rattle.path_client.specs.declared.fault.ClientFault.TheVariants.{Malformed, Closed, ReadFault, WriteFault, OldServer, NoMemory}

-- what is left is these bytes and the rest after them, if the talk is told
abbrev pub BeginsLeft : Option Talk → List ℕ → Type 0
BeginsLeft told bytes = IfSome told (λ talk. talk.left ≡ bytes ++ drop (length bytes) talk.left)

-- nothing is left, if the talk is told
abbrev pub NothingLeft : Option Talk → Type 0
NothingLeft told = IfSome told (λ talk. talk.left ≡ [])

-- these bytes were taken from what was left, and no byte more
pub record Takes (before after : Option Talk) (taken : List ℕ) : Type 0 where
  pub front : BeginsLeft before taken
  pub moved : after ≡ with_taken before (length taken)

-- why no more than this many bytes are held: the link ended, or a read failed
abbrev pub IsCutShort : ℕ → Option Talk → ClientFault → Type 0
IsCutShort held after (Closed have) = (have ≡ held) × NothingLeft after
IsCutShort held after ReadFault = ⊤
IsCutShort held after Malformed = ⊥
IsCutShort held after WriteFault = ⊥
IsCutShort held after (OldServer kind) = ⊥
IsCutShort held after NoMemory = ⊥

-- fewer than this many bytes were taken, after those that are held, and why no more
pub record TakesPart (before after : Option Talk) (size held : ℕ) (fault : ClientFault) : Type 0 where
  pub part : List ℕ
  pub takes : Takes before after part
  pub fewer : length part < size
  pub why : IsCutShort (held + length part) after fault
