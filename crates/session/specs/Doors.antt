-- What a loop at a door does: its talks, one after the other, and how it ends.
use Rattle.std.specs.Prelude.{◌≡◌, ◌⊎◌, true, false, IfErr, IfSome, List, None, Option, Result, Some, [], ◌∷◌, ◌++◌, option_map}
use Rattle.path_core.specs.declared.entry.Entry.{Entry}
use Rattle.path_core.specs.Histories.{IsHalting}
use Rattle.path_core.specs.Passes.{BeginsWith, OthersAdd}
use Rattle.wire.specs.Causes.{Rose}
use Rattle.wire.specs.Knocks.{AtDoor}
use Rattle.wire.specs.Talks.{AtLink, EndedTalk, Talk, talk_over}
use Rattle.session.specs.declared.doors.DoorEnded.{DoorEnded}
use Rattle.session.specs.declared.doors.DoorEnded.TheVariants.{Halting, Closed, Failed}
use Rattle.session.specs.declared.sessions.Ended.{Ended}
use Rattle.session.specs.declared.sessions.SessionFault.{SessionFault}
use Rattle.session.specs.Conversations.{Conversed, HasCause, Rests}
use Rattle.session.specs.Standing.{HoldsSince, Place, Raises, Standing}

-- the talk as it was when it began: nothing was taken and nothing sent
abbrev pub as_begun : Talk → Talk
as_begun talk = record talk { left = talk.input; sent = option_map (λ _. []) talk.sent }

-- a link that had just come in, of which this became the talk
abbrev pub link_begun : EndedTalk → AtLink
link_begun ended =
    record { talk = Some (as_begun ended.talk); read_faults = 0; write_faults = 0 }

-- the link when its talk was over
abbrev pub link_ended : EndedTalk → AtLink
link_ended ended = record {
  talk = Some ended.talk;
  read_faults = ended.read_faults;
  write_faults = ended.write_faults;
}

-- A TALK that is over was served from its first byte on, and a fault is told only where the count of its direction rose
pub record IsServedTalk (place : Place) (from : Standing) (ended : EndedTalk) (to : Standing) : Type 0 where
  pub result : Result Ended SessionFault
  pub conversed : Conversed place from (link_begun ended).talk result to (link_ended ended).talk
  pub cause : IfErr result (HasCause (link_begun ended) (link_ended ended))

-- a look between two talks
pub record LooksBetween (place : Place) (old new : Standing) : Type 0 where
  pub rests : Rests place old new
  pub looked : Raises old.looks new.looks

-- a further talk comes only where the board did not halt at that look
abbrev pub MayGoOn : Standing → List EndedTalk → Type 0
MayGoOn look [] = Unit {0}
MayGoOn look (talk ∷ rest) = IsHalting look.seen → ⊥

-- A PASS MOVES ON: the history goes on, the version that is held is the one from before or was published since, and at a place
-- that is silent the pass entered nothing
pub record MovesOn (silent : Place → Type 0) (place : Place) (old new : Standing) : Type 0 where
  pub extends : BeginsWith new.seen old.seen
  pub holds : HoldsSince old new
  pub quiet : silent place → OthersAdd place.pass old.seen new.seen

-- What is so of a talk that was held at a place, by how the pass stood before and after it, differs from trade to
-- trade.
module _ (held : Place → Standing → EndedTalk → Standing → Type 0) where
  -- the link tells its talk, which was held so
  pub record HoldsTalk (place : Place) (from : Standing) (link : AtLink) (to : Standing) : Type 0 where
    pub talk : Talk
    pub told_is : link.talk ≡ Some talk
    pub so : held place from (talk_over link talk) to

  -- THE TALKS LEAD from one standing to another, through points of one history, one after the other, with a look after
  -- each; others may add entries between them and after the last
  abbrev pub Lead : Place → Standing → List EndedTalk → Standing → Type 0
  Lead place old [] new = Rests place old new
  Lead place old (talk ∷ rest) new =
      (from : Standing) × (to : Standing) × (look : Standing) × Rests place old from × held place from talk to
      × LooksBetween place to look × MayGoOn look rest × Lead place look rest new

  -- these talks were told before; those that were added since lead from the one standing to the other
  pub record LeadsOn (place : Place) (old : Standing) (talks : List EndedTalk) (new : Standing)
      (after : Option (List EndedTalk)) : Type 0 where
    pub more : List EndedTalk
    pub after_is : after ≡ Some (talks ++ more)
    pub lead : Lead place old more new

  -- one talk more is told, which was held
  pub record ServesOne (place : Place) (old : Standing) (talks : List EndedTalk) (new : Standing)
      (after : Option (List EndedTalk)) : Type 0 where
    pub talk : EndedTalk
    pub after_is : after ≡ Some (talks ++ talk ∷ [])
    pub served : held place old talk new

  module _ (silent : Place → Type 0) where
    -- WHAT A LOOP AT A DOOR DID: the pass moved on, and where the door tells its talks, those that were added were held
    pub record HasServed (place : Place) (old : Standing) (before : Option (List EndedTalk)) (new : Standing)
        (after : Option (List EndedTalk)) : Type 0 where
      pub on : MovesOn silent place old new
      pub told : IfSome before (λ talks. LeadsOn place old talks new after)

    -- WHAT WAS DONE OVER ONE CONNECTION: the pass moved on, and where the door tells its talks, the one that was added was held
    pub record HasServedOne (place : Place) (old : Standing) (before : Option (List EndedTalk)) (new : Standing)
        (after : Option (List EndedTalk)) : Type 0 where
      pub on : MovesOn silent place old new
      pub told : IfSome before (λ talks. ServesOne place old talks new after)

-- HOW A LOOP AT A DOOR ENDED: the board halts, the door has answered that nobody will come any more, or a knock has failed
abbrev pub DoorEndsSo : DoorEnded → List Entry → AtDoor → AtDoor → Type 0
DoorEndsSo Halting seen before after =
    IsHalting seen × (after.closed ≡ false) × (after.faults ≡ before.faults)
DoorEndsSo Closed seen before after = (after.closed ≡ true) × (after.faults ≡ before.faults)
DoorEndsSo Failed seen before after = (after.closed ≡ false) × Rose before.faults after.faults

-- it ended so, or goes on: the board does not halt, the door is open, and no knock has failed
abbrev pub GoesOnOrEnds : Option DoorEnded → List Entry → AtDoor → AtDoor → Type 0
GoesOnOrEnds None seen before after =
    (IsHalting seen → ⊥) × (after.closed ≡ false) × (after.faults ≡ before.faults)
GoesOnOrEnds (Some ended) seen before after = DoorEndsSo ended seen before after

-- a loop that begins, or that has looked last at a board that does not halt
abbrev pub HasGoneOn : Standing → Option (List EndedTalk) → Standing → Option (List EndedTalk) → Type 0
HasGoneOn old before new after = ((new ≡ old) × (after ≡ before)) ⊎ (IsHalting new.seen → ⊥)

-- a door that tells its talks has lent as many connections as before
abbrev pub LendsTheSame : AtDoor → AtDoor → Type 0
LendsTheSame before after = IfSome before.talks (λ _. after.lent ≡ before.lent)
