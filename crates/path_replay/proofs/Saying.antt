-- What is said of an event, and the entry that it leaves.
use Rattle.std.proofs.Common.{◌≡◌, ℕ, List, Option, Some, None, Result, Ok, Err, OnOk, OnErr, refl, ap, inr}
use Rattle.std.specs.Option.{option_map}
use Rattle.moves.specs.declared.Cell.{Cell}
use Rattle.edit_log.specs.declared.edit.Edit.{Edit}
use Rattle.path_core.specs.declared.entry.Entry.{Entry}
use Rattle.path_core.specs.declared.entry.Entry.TheVariants.{Publish as PublishEntry, Halt as HaltEntry}
use Rattle.path_core.specs.Boards.{Boarded}
use Rattle.path_core.specs.Histories.{edits_of}
use Rattle.path_replay.specs.declared.event.Event.{Event}
use Rattle.path_replay.specs.declared.event.Event.TheVariants.{Submit, Query, Publish, Halt}
use Rattle.path_replay.specs.declared.reply.Reply.{Reply}
use Rattle.path_replay.specs.declared.reply.Reply.TheVariants.{Accepted, Refused, Looked, NothingNew, Job, NoRow, RowLeft, NoJob, NotReady, Overtaken, Published, Halting, Halted}
use Rattle.path_replay.specs.Replays.{OpenBuild, IsSubmitted, IsPublished, IsHalted}
use Rattle.path_replay.specs.Texts.{query_text, reply_text}
use Rattle.path_replay.specs.Inside.{AddsAnswer, AddsSaid, Holding, build_of, standing_of, Grows, IsCutShort, IsReplayable, IsSound}
use Rattle.path_replay.proofs.Holdings.{no_edit, other_replayable}

pub on_err : {T E P : Type 0} (result : Result T E) → P → OnErr result P
on_err (Ok x) p = tt
on_err (Err why) p = p

pub on_ok : {T E P : Type 0} (result : Result T E) → P → OnOk result P
on_ok (Ok x) p = p
on_ok (Err why) p = tt

-- ---- neither a publication nor a halt accepts an edit

published_edits : (history : List Entry) (pass : ℕ) (build : Option OpenBuild) (reply : Reply) (after : List Entry) (left : Option OpenBuild)
    → IsPublished history pass build reply after left → edits_of after ≡ edits_of history
published_edits history pass None (Accepted count) after left is = absurd is
published_edits history pass None (Refused why) after left is = absurd is
published_edits history pass None (Looked prefix accepted) after left is = absurd is
published_edits history pass None (NothingNew prefix) after left is = absurd is
published_edits history pass None (Job prefix rows) after left is = absurd is
published_edits history pass None NoRow after left is = absurd is
published_edits history pass None (RowLeft rows) after left is = absurd is
published_edits history pass None NoJob after left is = ap edits_of is.0
published_edits history pass None (NotReady rows) after left is = absurd is
published_edits history pass None (Overtaken by) after left is = absurd is
published_edits history pass None (Published prefix built kept) after left is = absurd is
published_edits history pass None Halting after left is = absurd is
published_edits history pass None Halted after left is = absurd is
published_edits history pass (Some build) (Accepted count) after left is = absurd is
published_edits history pass (Some build) (Refused why) after left is = absurd is
published_edits history pass (Some build) (Looked prefix accepted) after left is = absurd is
published_edits history pass (Some build) (NothingNew prefix) after left is = absurd is
published_edits history pass (Some build) (Job prefix rows) after left is = absurd is
published_edits history pass (Some build) NoRow after left is = absurd is
published_edits history pass (Some build) (RowLeft rows) after left is = absurd is
published_edits history pass (Some build) NoJob after left is = absurd is
published_edits history pass (Some build) (NotReady rows) after left is = ap edits_of is.2
published_edits history pass (Some build) (Overtaken by) after left is = ap edits_of is.3
published_edits history pass (Some build) (Published prefix built kept) after left is = no_edit history after (PublishEntry pass build.prefix) is.5 refl
published_edits history pass (Some build) Halting after left is = absurd is
published_edits history pass (Some build) Halted after left is = absurd is

halted_edits : (history : List Entry) (pass : ℕ) (reply : Reply) (after : List Entry) → IsHalted history pass reply after → edits_of after ≡ edits_of history
halted_edits history pass (Accepted count) after is = absurd is
halted_edits history pass (Refused why) after is = absurd is
halted_edits history pass (Looked prefix accepted) after is = absurd is
halted_edits history pass (NothingNew prefix) after is = absurd is
halted_edits history pass (Job prefix rows) after is = absurd is
halted_edits history pass NoRow after is = absurd is
halted_edits history pass (RowLeft rows) after is = absurd is
halted_edits history pass NoJob after is = absurd is
halted_edits history pass (NotReady rows) after is = absurd is
halted_edits history pass (Overtaken by) after is = absurd is
halted_edits history pass (Published prefix built kept) after is = absurd is
halted_edits history pass Halting after is = no_edit history after (HaltEntry pass) is.1 refl
halted_edits history pass Halted after is = ap edits_of is.1

pub published_replayable : (old new : Boarded) (pass : ℕ) (build : Option OpenBuild) (reply : Reply) (left : Option OpenBuild) → IsReplayable old → Grows old new
    → IsPublished old.history pass build reply new.history left → IsReplayable new
published_replayable old new pass build reply left replayable grows is =
    other_replayable old new replayable grows.start (published_edits old.history pass build reply new.history left is)

pub halted_replayable : (old new : Boarded) (pass : ℕ) (reply : Reply) → IsReplayable old → Grows old new → IsHalted old.history pass reply new.history
    → IsReplayable new
halted_replayable old new pass reply replayable grows is = other_replayable old new replayable grows.start (halted_edits old.history pass reply new.history is)

-- ---- an event that was run is entered, even if nothing is said of it

pub submit_entered : (old new : Boarded) (state : Holding) (event : Event) (pass : ℕ) (edit : Edit) (reply : Reply) → event ≡ Submit pass edit
    → IsSubmitted old.start old.history pass edit reply new.history → IsCutShort old state event new
submit_entered old new state event pass edit reply which is =
    rw which (inr (record { said = reply_text reply; state = standing_of state; is = (reply, (is, refl), refl) }))

pub publish_entered : (old new : Boarded) (state after : Holding) (event : Event) (pass : ℕ) (reply : Reply) → event ≡ Publish pass
    → IsPublished old.history pass (option_map build_of state.building) reply new.history (option_map build_of after.building) → after.version ≡ state.version
    → IsCutShort old state event new
publish_entered old new state after event pass reply which is same =
    rw which (inr (record { said = reply_text reply; state = standing_of after; is = (reply, (is, ap (λ v. v.prefix) same), refl) }))

pub halt_entered : (old new : Boarded) (state : Holding) (event : Event) (pass : ℕ) (reply : Reply) → event ≡ Halt pass
    → IsHalted old.history pass reply new.history → IsCutShort old state event new
halt_entered old new state event pass reply which is =
    rw which (inr (record { said = reply_text reply; state = standing_of state; is = (reply, (is, refl), refl) }))

-- what is said of a query
pub query_told : (board : Boarded) (pass : Holding) (event : Event) (number : ℕ) (start goal : Cell) (before text : List ℕ) → event ≡ Query number start goal
    → IsSound board pass → AddsAnswer pass.version start goal before text → AddsSaid board pass event board pass before text
query_told board pass event number start goal before text which sound adds = rw which (record {
  said = query_text pass.version.prefix adds.answer;
  is = (adds.answer, record { version = pass.version; is_version = sound.version; answers = adds.is }, refl, refl);
  added = adds.added;
})
