-- The served step: how a pass that is asked for something answers it, and how it stands then.
use Rattle.std.specs.Prelude.{◌≡◌, ◌⊎◌, ℕ, ◌<◌, ◌≤◌, false, true, List, [], ◌∷◌, ◌++◌, None, length}
use Rattle.moves.specs.declared.Cell.{Cell}
use Rattle.moves.specs.declared.Move.{Move}
use Rattle.moves.specs.Maps.{passable_count}
use Rattle.moves.specs.Paths.{cost_of}
use Rattle.edit_log.specs.declared.edit.Edit.{Edit}
use Rattle.edit_log.specs.Verdicts.{IsRefusal}
use Rattle.versions.specs.declared.query.End.TheVariants.{Start, Goal}
use Rattle.versions.specs.declared.query.QueryRefusal.{QueryRefusal}
use Rattle.versions.specs.declared.query.QueryRefusal.TheVariants.{Outside, Blocked}
use Rattle.versions.specs.Answers.{Answer, path, refused, unreachable}
use Rattle.versions.specs.Counts.{AreCounts}
use Rattle.versions.specs.Databases.{Versioned, runs_of}
use Rattle.path_core.specs.declared.entry.Entry.{Entry}
use Rattle.path_core.specs.declared.entry.Entry.TheVariants.{Publish}
use Rattle.path_core.specs.Histories.{accepted_count, map_at, map_now, published_prefix, IsAnswerAt, IsHalting, IsVersionAt}
use Rattle.path_core.specs.Passes.{BeginsWith}
use Rattle.query_proto.specs.declared.replies.QueryWhy.{QueryWhy}
use Rattle.query_proto.specs.declared.replies.Reply.{Reply}
use Rattle.query_proto.specs.declared.replies.Reply.TheVariants as reply
use Rattle.query_proto.specs.declared.requests.Request.{Request}
use Rattle.query_proto.specs.declared.requests.Request.TheVariants as request
use Rattle.session.specs.Standing.{HoldsItsOwn, HoldsSince, Meanwhile, Place, Raises, Standing}
use Rattle.session.specs.Desks.{HaltsFirst, IsEntered, IsRoomUsed, MayBeEntered}

-- why a query was refused, as a reply tells it
abbrev pub why_of : QueryRefusal → QueryWhy
why_of (Outside Start) = record { blocked = false; goal = false }
why_of (Outside Goal) = record { blocked = false; goal = true }
why_of (Blocked Start) = record { blocked = true; goal = false }
why_of (Blocked Goal) = record { blocked = true; goal = true }

-- the reply and the moves after it tell that answer of the version with that prefix
abbrev pub TellsAnswer : ℕ → Answer → Reply → List Move → Type 0
TellsAnswer version (refused why) told moves = (told ≡ reply.Refused version (why_of why)) × (moves ≡ [])
TellsAnswer version unreachable told moves = (told ≡ reply.Unreachable version) × (moves ≡ [])
TellsAnswer version (path found) told moves = (told ≡ reply.Path version (cost_of found)) × (moves ≡ found)

-- a newer version than the held one was published, and could not be taken
pub record LacksVersion (old new : Standing) (told : Reply) (moves : List Move) : Type 0 where
  pub reply_is : told ≡ reply.NoMemory
  pub moves_are : moves ≡ []
  pub newer : old.held < published_prefix new.seen
  pub kept : new.held ≡ old.held

-- the answer at the history that is seen, by its published version, which is held
pub record TellsPath (place : Place) (start goal : Cell) (new : Standing) (told : Reply)
    (moves : List Move) : Type 0 where
  pub answer : Answer
  pub is : IsAnswerAt place.start place.order new.seen (published_prefix new.seen) start goal answer
  pub tells : TellsAnswer (published_prefix new.seen) answer told moves
  pub holds : new.held ≡ published_prefix new.seen

-- a query
pub record ServesQuery (place : Place) (start goal : Cell) (old : Standing) (told : Reply) (moves : List Move)
    (new : Standing) : Type 0 where
  pub others : Meanwhile place old.seen new.seen
  pub answers : TellsPath place start goal new told moves ⊎ LacksVersion old new told moves

-- a change
abbrev pub ServesChange : Place → Edit → List Entry → Reply → List Entry → Type 0
ServesChange place edit before (reply.Accepted number) after = IsEntered place edit before after number
ServesChange place edit before (reply.EditRefused why) after =
    Meanwhile place before after × IsRefusal (map_now place.start after) (accepted_count after) edit why
ServesChange place edit before reply.NoMemory after =
    Meanwhile place before after × MayBeEntered place after edit × IsRoomUsed place after
ServesChange place edit before _ after = ⊥

-- nothing was new: at some history between, the published version had all edits that are accepted then
pub record HasNothingNew (place : Place) (before after : List Entry) (prefix : ℕ) : Type 0 where
  pub others : Meanwhile place before after
  pub at : List Entry
  pub later : BeginsWith at before
  pub earlier : BeginsWith after at
  pub published : prefix ≡ published_prefix at
  pub accepted : prefix ≡ accepted_count after

-- A version was built and published: the pass looked, took the edits up to that prefix, and published after entries of
-- others alone. The counts are those of the map that the build followed and of the map that was built.
pub record BuildsVersion (place : Place) (before after : List Entry) (prefix built kept : ℕ) : Type 0 where
  pub looked : List Entry
  pub taken : List Entry
  pub between : List Entry
  pub to_look : Meanwhile place before looked
  pub to_job : Meanwhile place looked taken
  pub to_publish : Meanwhile place taken between
  pub own : after ≡ between ++ Publish place.pass prefix ∷ []
  pub all : prefix ≡ accepted_count taken
  pub newer : published_prefix looked < prefix
  pub newest : published_prefix between < prefix
  pub counts : AreCounts (map_at place.start taken (published_prefix looked)) (map_at place.start taken prefix) built kept

-- another version with as many edits or more was published first
pub record IsOvertaken (place : Place) (before after : List Entry) (by : ℕ) : Type 0 where
  pub looked : List Entry
  pub taken : List Entry
  pub to_look : Meanwhile place before looked
  pub to_job : Meanwhile place looked taken
  pub to_publish : Meanwhile place taken after
  pub newer : published_prefix looked < accepted_count taken
  pub published : by ≡ published_prefix after
  pub enough : accepted_count taken ≤ by

-- a build
abbrev pub ServesBuild : Place → List Entry → Reply → Standing → Type 0
ServesBuild place before (reply.NothingNew prefix) new = HasNothingNew place before new.seen prefix
ServesBuild place before (reply.Published prefix built kept) new = BuildsVersion place before new.seen prefix built kept
ServesBuild place before (reply.Overtaken by) new = IsOvertaken place before new.seen by
ServesBuild place before reply.NoMemory new = Meanwhile place before new.seen × (new.held < accepted_count new.seen)
ServesBuild place before _ new = ⊥

-- the state of the board
pub record TellsState (place : Place) (before after : List Entry) (version accepted cells comps runs : ℕ) : Type 0 where
  pub others : Meanwhile place before after
  pub published : Versioned
  pub is : IsVersionAt place.start place.order after (published_prefix after) published
  pub version_is : version ≡ published_prefix after
  pub accepted_is : accepted ≡ accepted_count after
  pub cells_are : cells ≡ passable_count published.map
  pub comps_are : comps ≡ length published.comps
  pub runs_are : runs ≡ runs_of published.comps

abbrev pub ServesStatus : Place → List Entry → Reply → List Entry → Type 0
ServesStatus place before (reply.Status version accepted cells comps runs) after =
    TellsState place before after version accepted cells comps runs
ServesStatus place before _ after = ⊥

-- the end of the server: a halt was entered, or there was one
abbrev pub ServesStop : Place → List Entry → Reply → List Entry → Type 0
ServesStop place before reply.Done after =
    HaltsFirst place before after ⊎ (Meanwhile place before after × IsHalting after)
ServesStop place before reply.NoMemory after =
    Meanwhile place before after × (IsHalting after → ⊥) × IsRoomUsed place after
ServesStop place before _ after = ⊥

-- what is asked for is answered by that reply and those moves
abbrev pub Serves : Place → Request → Standing → Reply → List Move → Standing → Type 0
Serves place (request.Query start goal) old told moves new = ServesQuery place start goal old told moves new
Serves place (request.Change edit) old told moves new = ServesChange place edit old.seen told new.seen × (moves ≡ [])
Serves place request.Build old told moves new = ServesBuild place old.seen told new × (moves ≡ [])
Serves place request.Status old told moves new = ServesStatus place old.seen told new.seen × (moves ≡ [])
Serves place request.Bye old told moves new = (told ≡ reply.Done) × (moves ≡ []) × (new ≡ old)
Serves place request.Stop old told moves new = ServesStop place old.seen told new.seen × (moves ≡ [])
Serves place request.Hello old told moves new = (told ≡ reply.Welcome) × (moves ≡ []) × (new ≡ old)

-- each request but a Bye and a Hello is answered after a look
abbrev pub LooksFor : Request → Standing → Standing → Type 0
LooksFor request.Bye old new = Unit {0}
LooksFor request.Hello old new = Unit {0}
LooksFor _ old new = Raises old.looks new.looks

-- THE SERVED STEP: a request is answered so, the version that is held then is the one from before or was published
-- since, on a board of its own it is the published one, and the looks rise
pub record ServesRequest (place : Place) (asked : Request) (old : Standing) (told : Reply) (moves : List Move)
    (new : Standing) : Type 0 where
  pub served : Serves place asked old told moves new
  pub holds : HoldsSince old new
  pub own : HoldsItsOwn place new
  pub looks : LooksFor asked old new

-- on a board of its own no query needs memory
abbrev pub OwnQueriesAreAnswered : Type 0
OwnQueriesAreAnswered =
    (place : Place) (start goal : Cell) (old new : Standing) (told : Reply) (moves : List Move) → place.shared ≡ None
    → ServesRequest place (request.Query start goal) old told moves new → told ≡ reply.NoMemory → ⊥
