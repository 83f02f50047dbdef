-- What the calls of a desk answer, and what they change at it.
use Rattle.std.specs.Prelude.{◌≡◌, ◌↔◌, ℕ, ◌<◌, ◌≤◌, Bool, MatchBool, IsTrue, IsFalse, List, [], ◌∷◌, ◌++◌, length, drop}
use Rattle.moves.specs.Maps.{passable_count}
use Rattle.versions.specs.Databases.{Versioned, runs_of}
use Rattle.edit_log.specs.declared.edit.Edit.{Edit}
use Rattle.edit_log.specs.Verdicts.{IsRefusal, MayBeAccepted}
use Rattle.path_core.specs.declared.entry.Entry.{Entry}
use Rattle.path_core.specs.declared.entry.Entry.TheVariants.{Accept, Publish, Halt}
use Rattle.path_core.specs.declared.board.Look.{Look}
use Rattle.path_core.specs.declared.board.Job.{Job}
use Rattle.path_core.specs.declared.error.SubmitError.{SubmitError}
use Rattle.path_core.specs.declared.error.SubmitError.TheVariants.{Refused, NoMemory}
use Rattle.path_core.specs.declared.error.PublishError.{PublishError}
use Rattle.path_core.specs.declared.error.PublishError.TheVariants.{Overtaken, NoMemory as NoMemoryFor}
use Rattle.path_core.specs.Boards.{MayBePublished}
use Rattle.path_core.specs.Histories.{accepted_count, edits_of, map_now, published_prefix, IsHalting, IsLegal, IsVersionAt}
use Rattle.session.specs.Standing.{AtDesk, Enters, Meanwhile, Place, Raises}

-- the edit may be accepted after that history
abbrev pub MayBeEntered : Place → List Entry → Edit → Type 0
MayBeEntered place seen edit = MayBeAccepted (map_now place.start seen) (accepted_count seen) edit

-- the room is used up, so a further entry may need memory
abbrev pub IsRoomUsed : Place → List Entry → Type 0
IsRoomUsed place seen = place.room ≤ length seen

-- A call at a desk: its place stays, and told looks are more than before.
pub record IsCall (old new : AtDesk) : Type 0 where
  pub place : new.place ≡ old.place
  pub looks : Raises old.looks new.looks

-- A call after which the version is held that was held before.
pub record KeepsVersion (old new : AtDesk) : Type 0 where
  pub place : new.place ≡ old.place
  pub version : new.version ≡ old.version
  pub looks : Raises old.looks new.looks

-- meanwhile others may have added entries, and the pass none
abbrev pub AddsNone : AtDesk → AtDesk → Type 0
AddsNone old new = Meanwhile old.place old.seen new.seen

-- A look shows what is published then, how many edits are accepted, and whether the board halts. What was seen is legal. The
-- published version is held then, or a newer one than the held one was published and could not be taken.
pub record Looks (old new : AtDesk) (look : Look) : Type 0 where
  pub others : AddsNone old new
  pub legal : IsLegal old.place.start new.seen
  pub published : Versioned
  pub is : IsVersionAt old.place.start old.place.order new.seen (published_prefix new.seen) published
  pub prefix : look.prefix ≡ published_prefix new.seen
  pub cells : look.totals.cells ≡ passable_count published.map
  pub comps : look.totals.comps ≡ length published.comps
  pub runs : look.totals.runs ≡ runs_of published.comps
  pub accepted : look.accepted ≡ accepted_count new.seen
  pub halting : IsTrue look.halting ↔ IsHalting new.seen
  pub held : IsTrue look.held → new.version ≡ published
  pub kept : IsFalse look.held → (new.version ≡ old.version) × (old.version.prefix < published_prefix new.seen)

-- the edit was accepted, as that number, after a history at which it may be
pub record IsEntered (place : Place) (edit : Edit) (before after : List Entry) (number : ℕ) : Type 0 where
  pub own : Enters place (Accept place.pass edit) before after
  pub may : MayBeEntered place own.between edit
  pub number_is : number ≡ accepted_count after

-- the edit was not accepted: it is refused, or there was no memory for it
abbrev pub IsNotEntered : AtDesk → Edit → AtDesk → SubmitError → Type 0
IsNotEntered old edit new (Refused why) =
    AddsNone old new × IsRefusal (map_now old.place.start new.seen) (accepted_count new.seen) edit why
IsNotEntered old edit new NoMemory = AddsNone old new × MayBeEntered old.place new.seen edit × IsRoomUsed old.place new.seen

-- the job has the accepted edits past this many known ones, and what was seen is legal
pub record IsJobAt (place : Place) (seen : List Entry) (known : ℕ) (job : Job) : Type 0 where
  pub legal : IsLegal place.start seen
  pub prefix : job.prefix ≡ accepted_count seen
  pub edits : job.edits.edits ≡ drop known (edits_of seen)

-- a desk may publish that version
abbrev pub MayPublish : AtDesk → Versioned → Type 0
MayPublish desk next = MayBePublished desk.place.start desk.place.order desk.seen next

-- the version of that prefix was published; the one before it has a smaller prefix
pub record IsPublished (old new : AtDesk) (prefix : ℕ) : Type 0 where
  pub between : List Entry
  pub others : Meanwhile old.place old.seen between
  pub newer : published_prefix between < prefix
  pub own : new.seen ≡ between ++ Publish old.place.pass prefix ∷ []

-- it was not published: another one with as many edits or more was published first, or there was no memory for it
abbrev pub IsNotPublished : AtDesk → AtDesk → ℕ → PublishError → Type 0
IsNotPublished old new prefix (Overtaken by) = AddsNone old new × (by ≡ published_prefix new.seen) × (prefix ≤ by)
IsNotPublished old new prefix NoMemoryFor =
    AddsNone old new × (published_prefix new.seen < prefix) × IsRoomUsed old.place new.seen

-- a halt was entered on a board that did not halt
pub record HaltsFirst (place : Place) (before after : List Entry) : Type 0 where
  pub between : List Entry
  pub others : Meanwhile place before between
  pub first : IsHalting between → ⊥
  pub own : after ≡ between ++ Halt place.pass ∷ []

-- a halt was entered by the pass, or there was one
abbrev pub IsHalted : AtDesk → AtDesk → Bool → Type 0
IsHalted old new first = MatchBool first (HaltsFirst old.place old.seen new.seen) (AddsNone old new × IsHalting new.seen)

-- no halt was entered, since memory ran out
pub record IsNotHalted (old new : AtDesk) : Type 0 where
  pub others : AddsNone old new
  pub none : IsHalting new.seen → ⊥
  pub used : IsRoomUsed old.place new.seen
