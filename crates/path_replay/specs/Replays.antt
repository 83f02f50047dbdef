-- Replay: what events of several passes print, and the history that they leave.
use Rattle.std.specs.Prelude.{◌≡◌, ◌≢◌, ℕ, ◌+◌, ◌<◌, ◌≤◌, List, [], ◌∷◌, ◌++◌, replicate, set, slice_index_or, Option, None, Some}
use Rattle.moves.specs.Maps.{Map}
use Rattle.cell_order.specs.declared.OrderKind.{OrderKind}
use Rattle.edit_log.specs.declared.edit.Edit.{Edit}
use Rattle.edit_log.specs.Verdicts.{IsRefusal, MayBeAccepted}
use Rattle.versions.specs.Answers.{Answer}
use Rattle.versions.specs.Counts.{AreCounts}
use Rattle.path_core.specs.declared.entry.Entry.{Entry}
use Rattle.path_core.specs.declared.entry.Entry.TheVariants.{Accept as AcceptEntry, Publish as PublishEntry, Halt as HaltEntry}
use Rattle.path_core.specs.Boards.{Boarded}
use Rattle.path_core.specs.Histories.{accepted_count, map_at, map_now, published_prefix, IsAnswerAt, IsHalting}
use Rattle.path_replay.specs.declared.TheConstants.{PASSES}
use Rattle.path_replay.specs.declared.event.Event.{Event}
use Rattle.path_replay.specs.declared.event.Event.TheVariants.{Submit, Look, Query, Begin, Row, Publish, Halt}
use Rattle.path_replay.specs.declared.reply.Reply.{Reply}
use Rattle.path_replay.specs.declared.reply.Reply.TheVariants.{Accepted, Refused, Looked, NothingNew, Job, NoRow, RowLeft, NoJob, NotReady, Overtaken, Published, Halting, Halted}
use Rattle.path_replay.specs.Events.{pass_of}
use Rattle.path_replay.specs.Texts.{pass_line, query_text, reply_text}

-- a version that a pass builds: how many edits it comes after, how many of its rows are to be built and how many are kept,
-- and how many of the former are left
pub record OpenBuild : Type 0 where
  pub prefix : ℕ
  pub built : ℕ
  pub kept : ℕ
  pub left : ℕ

-- how a pass stands: how many edits the version comes after that it holds, and what it builds, if it builds one
pub record PassState : Type 0 where
  pub held : ℕ
  pub building : Option OpenBuild

-- at first a pass holds the first version and builds none
abbrev pub fresh_pass : PassState
fresh_pass = record { held = 0; building = None }

-- the state of a replay: the history, and how each pass stands
pub record Replaying : Type 0 where
  pub history : List Entry
  pub passes : List PassState

-- at first nothing is entered
abbrev pub first_state : Replaying
first_state = record { history = []; passes = replicate PASSES fresh_pass }

-- how a pass stands
abbrev pub state_of : Replaying → ℕ → PassState
state_of replaying pass = slice_index_or replaying.passes pass fresh_pass

-- ---- what is said of an event, by its kind: the history and the pass before it, the reply, and both after it

-- an edit is entered or refused
abbrev pub IsSubmitted : Map → List Entry → ℕ → Edit → Reply → List Entry → Type 0
IsSubmitted start history pass edit (Accepted count) after =
    MayBeAccepted (map_now start history) (accepted_count history) edit
    × (after ≡ history ++ AcceptEntry pass edit ∷ []) × (count ≡ accepted_count after)
IsSubmitted start history pass edit (Refused why) after =
    IsRefusal (map_now start history) (accepted_count history) edit why × (after ≡ history)
IsSubmitted start history pass edit _ after = ⊥

-- the published version is held
abbrev pub IsLooked : List Entry → PassState → Reply → PassState → Type 0
IsLooked history state (Looked prefix accepted) after =
    (prefix ≡ published_prefix history) × (accepted ≡ accepted_count history)
    × (after ≡ record { held = published_prefix history; building = state.building })
IsLooked history state _ after = ⊥

-- The published version is held, and the version of all accepted edits is begun: the rows are to be built of those of its
-- components that are none of the published version's.
pub record IsJob (start : Map) (history : List Entry) (prefix rows : ℕ) (after : PassState) : Type 0 where
  pub new : published_prefix history ≢ accepted_count history
  pub all : prefix ≡ accepted_count history
  pub kept : ℕ
  pub counts : AreCounts (map_at start history (published_prefix history)) (map_at start history prefix) rows kept
  pub begun : after
      ≡ record {
        held = published_prefix history;
        building = Some (record { prefix = prefix; built = rows; kept = kept; left = rows });
      }

-- what was being built is dropped; nothing is begun where all accepted edits are published
abbrev pub IsBegun : Map → List Entry → Reply → PassState → Type 0
IsBegun start history (NothingNew prefix) after =
    (published_prefix history ≡ accepted_count history) × (prefix ≡ accepted_count history)
    × (after ≡ record { held = published_prefix history; building = None })
IsBegun start history (Job prefix rows) after = IsJob start history prefix rows after
IsBegun start history _ after = ⊥

-- a row is built, if one is left
abbrev pub IsRowBuilt : Option OpenBuild → Reply → Option OpenBuild → Type 0
IsRowBuilt None NoRow after = after ≡ None
IsRowBuilt (Some build) NoRow after = (build.left ≡ 0) × (after ≡ Some build)
IsRowBuilt (Some build) (RowLeft left) after = (left + 1 ≡ build.left) × (after ≡ Some (record build { left = left }))
IsRowBuilt _ _ after = ⊥

-- a version that has all its rows is published, unless a later one is; what is not ready stays
abbrev pub IsPublished : List Entry → ℕ → Option OpenBuild → Reply → List Entry → Option OpenBuild → Type 0
IsPublished history pass None NoJob after building = (after ≡ history) × (building ≡ None)
IsPublished history pass (Some build) (NotReady left) after building =
    (0 < build.left) × (left ≡ build.left) × (after ≡ history) × (building ≡ Some build)
IsPublished history pass (Some build) (Overtaken by) after building =
    (build.left ≡ 0) × (by ≡ published_prefix history) × (build.prefix ≤ by) × (after ≡ history) × (building ≡ None)
IsPublished history pass (Some build) (Published prefix built kept) after building =
    (build.left ≡ 0) × (published_prefix history < build.prefix)
    × (prefix ≡ build.prefix) × (built ≡ build.built) × (kept ≡ build.kept)
    × (after ≡ history ++ PublishEntry pass build.prefix ∷ []) × (building ≡ None)
IsPublished history pass _ _ after building = ⊥

-- a halt is entered, unless one was
abbrev pub IsHalted : List Entry → ℕ → Reply → List Entry → Type 0
IsHalted history pass Halting after = (IsHalting history → ⊥) × (after ≡ history ++ HaltEntry pass ∷ [])
IsHalted history pass Halted after = IsHalting history × (after ≡ history)
IsHalted history pass _ after = ⊥

-- ---- one event

-- the history, and how one pass stands
pub record Standing : Type 0 where
  pub history : List Entry
  pub state : PassState

-- the reply to an event, by its kind; a query has none
abbrev pub IsReply : Map → Standing → Event → Reply → Standing → Type 0
IsReply start old (Submit pass edit) reply new =
    IsSubmitted start old.history pass edit reply new.history × (new.state ≡ old.state)
IsReply start old (Look pass) reply new = IsLooked old.history old.state reply new.state × (new.history ≡ old.history)
IsReply start old (Query pass from goal) reply new = ⊥
IsReply start old (Begin pass) reply new = IsBegun start old.history reply new.state × (new.history ≡ old.history)
IsReply start old (Row pass) reply new =
    IsRowBuilt old.state.building reply new.state.building × (new.state.held ≡ old.state.held) × (new.history ≡ old.history)
IsReply start old (Publish pass) reply new =
    IsPublished old.history pass old.state.building reply new.history new.state.building
    × (new.state.held ≡ old.state.held)
IsReply start old (Halt pass) reply new = IsHalted old.history pass reply new.history × (new.state ≡ old.state)

-- what is said of an event: the reply to it, or the answer to a query by the version that the pass holds
abbrev pub IsSaidOf : Map → OrderKind → Standing → Event → List ℕ → Standing → Type 0
IsSaidOf start order old (Query pass from goal) said new =
    (answer : Answer) × IsAnswerAt start order old.history old.state.held from goal answer
    × (said ≡ query_text old.state.held answer) × (new ≡ old)
IsSaidOf start order old event said new = (reply : Reply) × IsReply start old event reply new × (said ≡ reply_text reply)

-- One event: what is said of it makes its line, and its pass alone stands otherwise after it.
pub record IsStep (start : Map) (order : OrderKind) (old : Replaying) (event : Event) (line : List ℕ) (new : Replaying) : Type 0 where
  pub said : List ℕ
  pub state : PassState
  pub is : IsSaidOf start order (record { history = old.history; state = state_of old (pass_of event) }) event said
      (record { history = new.history; state = state })
  pub line_is : line ≡ pass_line (pass_of event) said
  pub passes : new.passes ≡ set old.passes (pass_of event) state

-- events, one after the other
abbrev pub Replays : Map → OrderKind → Replaying → List Event → List ℕ → Replaying → Type 0
Replays start order old [] text new = (text ≡ []) × (new ≡ old)
Replays start order old (event ∷ events) text new =
    (line : List ℕ) × (rest : List ℕ) × (next : Replaying) × IsStep start order old event line next
    × Replays start order next events rest new × (text ≡ line ++ rest)

-- ---- the whole

-- the events may be replayed on the board: it has no entries, and its versions have that order
pub record MayBeReplayed (board : Boarded) (order : OrderKind) : Type 0 where
  pub new : board.history ≡ []
  pub order_is : board.order ≡ order

-- the text has the lines of the events, and the board the history that they leave
pub record IsReplay (old : Boarded) (events : List Event) (text : List ℕ) (new : Boarded) : Type 0 where
  pub end : Replaying
  pub replays : Replays old.start old.order first_state events text end
  pub history : new.history ≡ end.history

-- the board has the history that the first of the events leave, up to some event
pub record IsCut (old : Boarded) (events : List Event) (new : Boarded) : Type 0 where
  pub done : List Event
  pub more : List Event
  pub split : events ≡ done ++ more
  pub lines : List ℕ
  pub replay : IsReplay old done lines new
