-- What the steps by which a frame is heard do.
use Rattle.std.specs.Prelude.{◌≡◌, ◌⊎◌, ℕ, List, ◌∷◌, ◌++◌, Option, Some}
use Rattle.cell_order.specs.declared.OrderKind.{OrderKind}
use Rattle.moves.specs.Maps.{Map}
use Rattle.versions.specs.Databases.{Versioned, IsVersion}
use Rattle.edit_log.specs.declared.edit.Edit.{Edit}
use Rattle.path_core.specs.Boards.{Boarded, MayBePublished}
use Rattle.path_core.specs.Histories.{accepted_count}
use Rattle.follow_proto.specs.Feeds.Message.{Start, Ahead, NoMemory}
use Rattle.follow_node.specs.declared.faults.FollowFault.{FollowFault}
use Rattle.follow_node.specs.declared.faults.FollowFault.TheVariants as fault
use Rattle.follow_node.specs.Following.{Followed, after_edits, new_followed, with_edits, CanAllBeAccepted, CannotBeAccepted, Judges, JudgesOrHalts}
use Rattle.follow_node.specs.Reading.{Spells, SpellsNoStart}

-- the version of that map and prefix, in that order
pub record IsVersionOf (map : Map) (prefix : ℕ) (order : OrderKind) (version : Versioned) : Type 0 where
  pub map_is : version.map ≡ map
  pub prefix_is : version.prefix ≡ prefix
  pub order_is : version.order ≡ order
  pub whole : IsVersion version

-- the version after all accepted edits, which may be published
pub record IsNextVersion (board : Boarded) (version : Versioned) : Type 0 where
  pub may : MayBePublished board.start board.order board.history version
  pub all : version.prefix ≡ accepted_count board.history

-- a board begins with the map that a frame spells
pub record Begins (order : OrderKind) (frame : List ℕ) (board : Followed) : Type 0 where
  pub spelled : Spells frame (Start board.start)
  pub new : board ≡ new_followed order board.start

-- why no board begins
abbrev pub BeginsNot : List ℕ → ℕ → FollowFault → Type 0
BeginsNot frame at (fault.Bad place) = (place ≡ at) × SpellsNoStart frame
BeginsNot frame at (fault.Ahead accepted) = ⊥
BeginsNot frame at fault.LeaderMemory = ⊥
BeginsNot frame at fault.NoMemory = Unit {0}

-- the frame is that of no message that has neither a map nor edits
pub record SpellsNoEnd (frame : List ℕ) : Type 0 where
  pub ahead : (accepted : ℕ) → Spells frame (Ahead accepted) → ⊥
  pub no_memory : Spells frame NoMemory → ⊥

-- what a frame says that has no edits
abbrev pub IsFaultOf : List ℕ → ℕ → FollowFault → Type 0
IsFaultOf frame at (fault.Bad place) = (place ≡ at) × SpellsNoEnd frame
IsFaultOf frame at (fault.Ahead accepted) = Spells frame (Ahead accepted)
IsFaultOf frame at fault.LeaderMemory = Spells frame NoMemory
IsFaultOf frame at fault.NoMemory = ⊥

-- why an edit was not accepted
abbrev pub IsSubmitFault : Followed → Edit → ℕ → FollowFault → Type 0
IsSubmitFault board edit at (fault.Bad place) = (place ≡ at) × CannotBeAccepted board edit
IsSubmitFault board edit at (fault.Ahead accepted) = ⊥
IsSubmitFault board edit at fault.LeaderMemory = ⊥
IsSubmitFault board edit at fault.NoMemory = Unit {0}

-- all edits were accepted
pub record SubmitsAll (before : Followed) (edits : List Edit) (after : Followed) : Type 0 where
  pub can : CanAllBeAccepted before edits
  pub board : after ≡ with_edits before edits

-- those before one of them were
pub record SubmitsFront (before : Followed) (edits : List Edit) (at : ℕ) (why : FollowFault) (after : Followed) : Type 0 where
  pub taken : List Edit
  pub next : Edit
  pub rest : List Edit
  pub edits_are : edits ≡ taken ++ next ∷ rest
  pub can : CanAllBeAccepted before taken
  pub board : after ≡ with_edits before taken
  pub cause : IsSubmitFault after next at why

-- all edits were accepted, and a version with them published where there are any
pub record AcceptsAll (before : Followed) (edits : List Edit) (after : Followed) : Type 0 where
  pub can : CanAllBeAccepted before edits
  pub board : after ≡ after_edits before edits

-- some first edits were accepted, and no version was published; where all were, it was for want of memory
pub record RunsOutBehind (before : Followed) (edits : List Edit) (why : FollowFault) (after : Followed) : Type 0 where
  pub all : SubmitsAll before edits after
  pub fault_is : why ≡ fault.NoMemory

abbrev pub AcceptsFront : Followed → List Edit → ℕ → FollowFault → Followed → Type 0
AcceptsFront before edits at why after = SubmitsFront before edits at why after ⊎ RunsOutBehind before edits why after

-- what becomes of a board by a whole frame behind the first one, whatever the order of its versions
abbrev pub GoesOn : Followed → List ℕ → ℕ → Option FollowFault → Followed → Type 0
GoesOn before frame at why after = (order : OrderKind) → Judges order (Some before) frame at why (Some after)

abbrev pub GoesOnOrHalts : Followed → List ℕ → ℕ → Option FollowFault → Followed → Type 0
GoesOnOrHalts before frame at why after = (order : OrderKind) → JudgesOrHalts order (Some before) frame at why (Some after)
