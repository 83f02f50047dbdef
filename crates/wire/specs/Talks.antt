-- What is told of a talk over a link. `None` if nothing is told.
use Rattle.std.specs.Prelude.{ℕ, ◌≡◌, ◌<◌, ◌≤◌, ◌↔◌, List, [], ◌∷◌, ◌++◌, length, take, drop, Option, option_map, option_and_then, IfSome}
use Rattle.std.specs.Io.KnownBytes.{append_known}
use Rattle.wire.specs.Causes.{Rose}

-- one side of a talk: the whole input, what is left of it, and the bytes sent, if those are told
pub record Talk : Type 0 where
  pub input : List ℕ
  pub left : List ℕ
  pub sent : Option (List ℕ)

-- the talk after this many bytes of what was left were taken
abbrev pub with_taken : Option Talk → ℕ → Option Talk
with_taken told count =
    option_map (λ (talk : Talk). record talk { left = drop count talk.left }) told

-- the talk after these bytes were sent
abbrev pub with_sent : Option Talk → List ℕ → Option Talk
with_sent told bytes =
    option_map (λ (talk : Talk). record talk { sent = append_known talk.sent bytes }) told

-- at least this many bytes are left
abbrev pub HasLeft : Option Talk → ℕ → Type 0
HasLeft told count = IfSome told (λ talk. count ≤ length talk.left)

-- no bytes come exactly if none are left
abbrev pub EndsAtZero : Option Talk → ℕ → Type 0
EndsAtZero told count = IfSome told (λ talk. (count ≡ 0) ↔ (talk.left ≡ []))

-- the room begins with this many bytes of what was left, and is unchanged after them
abbrev pub FillsRoom : Option Talk → ℕ → List ℕ → List ℕ → Type 0
FillsRoom told count before after =
    IfSome told (λ talk. after ≡ take count talk.left ++ drop count before)

-- the room is unchanged
abbrev pub KeepsRoom : Option Talk → List ℕ → List ℕ → Type 0
KeepsRoom told before after = IfSome told (λ _. after ≡ before)

-- a first part of the text was sent, less than the whole: for `path` nothing, `p`, `pa` or `pat`
abbrev pub SendsPrefix : Option Talk → Option Talk → List ℕ → Type 0
SendsPrefix before after text =
    (count : ℕ) × (count < length text) × (after ≡ with_sent before (take count text))

-- nothing of the input was taken, and nothing was sent yet
abbrev pub IsFresh : Option Talk → Type 0
IsFresh told =
    IfSome told (λ talk. (talk.left ≡ talk.input) × IfSome talk.sent (λ bytes. bytes ≡ []))

-- what is known of a link: its talk, if it tells it, and how often a recv and a send have failed
pub record AtLink : Type 0 where
  pub talk : Option Talk
  pub read_faults : ℕ
  pub write_faults : ℕ

-- a link on which nothing was taken or sent, and no call has failed
pub record IsUnused (link : AtLink) : Type 0 where
  pub fresh : IsFresh link.talk
  pub no_read_fault : link.read_faults ≡ 0
  pub no_write_fault : link.write_faults ≡ 0

-- a fault is counted by the recvs that failed
abbrev pub ReadFails : AtLink → AtLink → Type 0
ReadFails old new = Rose old.read_faults new.read_faults

-- a fault is counted by the sends that failed
abbrev pub WriteFails : AtLink → AtLink → Type 0
WriteFails old new = Rose old.write_faults new.write_faults

-- between the two no send has failed, and the count of failed recvs has not fallen
pub record OnlyReads (old new : AtLink) : Type 0 where
  pub later : old.read_faults ≤ new.read_faults
  pub other : new.write_faults ≡ old.write_faults

-- between the two no recv has failed, and the count of failed sends has not fallen
pub record OnlyWrites (old new : AtLink) : Type 0 where
  pub later : old.write_faults ≤ new.write_faults
  pub other : new.read_faults ≡ old.read_faults

-- neither count has fallen
pub record IsLater (old new : AtLink) : Type 0 where
  pub reads : old.read_faults ≤ new.read_faults
  pub writes : old.write_faults ≤ new.write_faults

-- a talk that is over: its bytes, and how often a recv and a send of it failed
pub record EndedTalk : Type 0 where
  pub talk : Talk
  pub read_faults : ℕ
  pub write_faults : ℕ

-- this talk, over the link as it was known at its end
abbrev pub talk_over : AtLink → Talk → EndedTalk
talk_over link talk = record {
  talk = talk;
  read_faults = link.read_faults;
  write_faults = link.write_faults;
}

-- the talks that are over, with that of this link added, if all are told
abbrev pub with_ended : Option (List EndedTalk) → AtLink → Option (List EndedTalk)
with_ended talks link = option_and_then
    (λ told. option_map (λ talk. told ++ talk_over link talk ∷ []) link.talk) talks
