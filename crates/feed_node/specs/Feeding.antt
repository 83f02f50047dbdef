-- What was sent and taken over a link while a feed went on, and how it ended.
use Rattle.std.specs.Prelude.{◌≡◌, ◌≢◌, ◌⊎◌, ℕ, ◌+◌, ◌<◌, ◌≤◌, List, [], ◌∷◌, ◌++◌, length, Option, Result, Ok, Err}
use Rattle.moves.specs.Maps.{Map}
use Rattle.path_core.specs.declared.entry.Entry.{Entry}
use Rattle.follow_proto.specs.declared.TheConstants.{ASK_SIZE}
use Rattle.follow_proto.specs.declared.kinds.TheConstants.{ASK}
use Rattle.follow_proto.specs.Feeds.{start_bytes}
use Rattle.wire.specs.Talks.{Talk, AtLink, ReadFails, WriteFails}
use Rattle.path_client.specs.Taking.{NothingLeft}
use Rattle.path_client.specs.Asking.{IsFirstPart, Passes}
use Rattle.path_board.specs.declared.pass.Pass.{Pass}
use Rattle.path_board.specs.Passes.{looks_of, seen_of}
use Rattle.feed_node.specs.declared.feeding.TheConstants.{MAX_ASKS}
use Rattle.feed_node.specs.declared.feeding.FeedEnded.{FeedEnded}
use Rattle.feed_node.specs.declared.feeding.FeedEnded.TheVariants.{Quiet, Spent}
use Rattle.feed_node.specs.declared.feeding.FeedFault.{FeedFault}
use Rattle.feed_node.specs.declared.feeding.FeedFault.TheVariants.{Torn, BadAsk, ReadFault, WriteFault}
use Rattle.feed_node.specs.Feeds.{Told, AnswersAll, asked_bytes, told_bytes}

-- a part of an ask, which begins as an ask does
pub record IsPart (last : List ℕ) : Type 0 where
  pub behind : List ℕ
  pub is : last ≡ ASK ∷ behind
  pub fewer : length last < ASK_SIZE

-- nothing, or a part of an ask
abbrev pub IsBegun : List ℕ → Type 0
IsBegun last = (last ≡ []) ⊎ IsPart last

-- bytes that begin with another byte than an ask has
pub record BeginsOther (last : List ℕ) (byte : ℕ) : Type 0 where
  pub behind : List ℕ
  pub is : last ≡ byte ∷ behind
  pub other : byte ≢ ASK

-- HOW A FEED ENDED: by how many asks were answered, by what was taken behind them, and by whether the input ended; only
-- where a fault met the sending is less than the whole feed sent
abbrev pub EndsSo : ℕ → List ℕ → List ℕ → List ℕ → Option Talk → Result FeedEnded FeedFault → Type 0
EndsSo asks last feed sent told (Ok Quiet) = (asks < MAX_ASKS) × (last ≡ []) × (sent ≡ feed) × NothingLeft told
EndsSo asks last feed sent told (Ok Spent) = (asks ≡ MAX_ASKS) × (last ≡ []) × (sent ≡ feed)
EndsSo asks last feed sent told (Err (Torn have)) = (have ≡ length last) × IsPart last × (sent ≡ feed) × NothingLeft told
EndsSo asks last feed sent told (Err (BadAsk byte)) = BeginsOther last byte × (sent ≡ feed)
EndsSo asks last feed sent told (Err ReadFault) = IsBegun last × (sent ≡ feed)
EndsSo asks last feed sent told (Err WriteFault) = (last ≡ []) × IsFirstPart sent feed

-- what a pass sees of a board: a history, and how often it has looked
pub record Sight : Type 0 where
  pub seen : List Entry
  pub looks : ℕ

-- what this pass sees
abbrev pub sight_of : Pass → Sight
sight_of pass = record { seen = seen_of pass; looks = looks_of pass }

-- A FEED OVER A LINK behind these first bytes, of what the pass sees meanwhile. Behind the whole asks that were taken and
-- answered stands what was taken last.
pub record FeedsBehind (head : List ℕ) (from : Sight) (before : Option Talk) (result : Result FeedEnded FeedFault) (to : Sight)
    (after : Option Talk) : Type 0 where
  pub tolds : List Told
  pub last : List ℕ
  pub sent : List ℕ
  pub answers : AnswersAll from.seen tolds to.seen
  pub looks : from.looks + length tolds ≤ to.looks
  pub few : length tolds ≤ MAX_ASKS
  pub passes : Passes before after (asked_bytes tolds ++ last) sent
  pub ends : EndsSo (length tolds) last (head ++ told_bytes tolds) sent after result

-- A FEED OVER A LINK, of this map and of what the pass sees meanwhile
abbrev pub Feeds : Map → Sight → Option Talk → Result FeedEnded FeedFault → Sight → Option Talk → Type 0
Feeds start from before result to after = FeedsBehind (start_bytes start) from before result to after

-- a fault of the link has its cause in the count of its direction
abbrev pub HasCause : AtLink → AtLink → FeedFault → Type 0
HasCause before after ReadFault = ReadFails before after
HasCause before after WriteFault = WriteFails before after
HasCause before after _ = Unit {0}
