-- What a feed has of the board's edits.
use Rattle.std.specs.Prelude.{◌≡◌, ◌⊎◌, ℕ, ◌+◌, ◌≤◌, List, ◌++◌, length, take, drop}
use Rattle.edit_log.specs.declared.edit.Edit.{Edit}
use Rattle.path_core.specs.declared.entry.Entry.{Entry}
use Rattle.path_core.specs.Histories.{accepted_count, edits_of, published_prefix}
use Rattle.path_core.specs.Passes.{BeginsWith}
use Rattle.path_board.specs.declared.pass.Pass.{Pass}
use Rattle.path_board.specs.Passes.{held_of, seen_of}
use Rattle.follow_proto.specs.declared.TheConstants.{MAX_SENT}
use Rattle.follow_proto.specs.Feeds.{Message}
use Rattle.follow_proto.specs.Feeds.Message.{Edits, Ahead, NoMemory}
use Rattle.feed_node.specs.Feeds.{Told}
use Rattle.feed_node.specs.declared.backlog.Finding.{Finding}
use Rattle.feed_node.specs.declared.backlog.Finding.TheVariants as found

-- the accepted edits past so many known ones, but maybe for the last ones
pub record IsBacklog (seen : List Entry) (known : ℕ) (edits : List Edit) : Type 0 where
  pub within : known ≤ accepted_count seen
  pub rest : List Edit
  pub are : drop known (edits_of seen) ≡ edits ++ rest

-- the backlog has as many edits as a message may have, from that place on
pub record HasFull (from : ℕ) (edits : List Edit) (known place : ℕ) : Type 0 where
  pub is : known ≡ from + place
  pub full : place + MAX_SENT ≤ length edits

-- the message of what was found, by the backlog
abbrev pub message_of : ℕ → List Edit → Finding → Message
message_of known edits (found.Ahead accepted) = Ahead accepted
message_of known edits (found.Edits first) = Edits known (take MAX_SENT (drop first edits))
message_of known edits found.NoMemory = NoMemory

-- the edits of a message are in the backlog
abbrev pub IsInside : List Edit → Finding → Type 0
IsInside edits (found.Ahead accepted) = Unit {0}
IsInside edits (found.Edits first) = first ≤ length edits
IsInside edits found.NoMemory = Unit {0}

-- what is told a follower that knows so many edits
abbrev pub told_of : ℕ → List Edit → Finding → Told
told_of known edits finding = record { known = known; message = message_of known edits finding }

-- the version with that prefix was the published one of a history between the two
pub record WasPublished (before after : List Entry) (prefix : ℕ) : Type 0 where
  pub at : List Entry
  pub later : BeginsWith at before
  pub earlier : BeginsWith after at
  pub is : prefix ≡ published_prefix at

-- the version that the pass holds is the one from before, or was published since
abbrev pub HoldsSince : Pass → Pass → Type 0
HoldsSince before after = ((held_of after).prefix ≡ (held_of before).prefix)
    ⊎ WasPublished (seen_of before) (seen_of after) (held_of after).prefix
