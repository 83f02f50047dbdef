-- Doors in memory, as contracts see them, and what a knock does to one.
use Rattle.std.specs.Prelude.{ℕ, ◌≡◌, ◌+◌, ◌-◌, List, [], ◌∷◌, ◌++◌, map, All, Bool, true, false, ◌==◌, Option, Some, None, Result, Ok, Err}
use Rattle.std.specs.List.{list_any}
use Rattle.wire.specs.Causes.{one_more}
use Rattle.wire.specs.Knocks.{AtDoor}
use Rattle.wire.specs.LinkInMemory.{LinkInMemory, link_told, new_link, talk_of}
use Rattle.wire.specs.Talks.{EndedTalk, talk_over}
use Rattle.wire.specs.declared.door.Knock.{Knock}
use Rattle.wire.specs.declared.door.Knock.TheVariants.{Conn, Quiet, Closed}
use Rattle.wire.specs.declared.faults.Failed.{Failed}

-- the connections that it will give, those that were handed back, how many were given and not
-- handed back, the numbers of the quiet knocks and of the knocks that fail (the first is 1), how
-- many knocks there were, how many of them failed, whether one answered Closed, and the port at
-- which a house gave it
pub record DoorInMemory : Type 0 where
  pub waiting : List LinkInMemory
  pub ended : List LinkInMemory
  pub lent : ℕ
  pub quiet : List ℕ
  pub fails : List ℕ
  pub calls : ℕ
  pub faults : ℕ
  pub closed : Bool
  pub port : Option ℕ

-- a door that nobody has knocked at yet
abbrev pub new_door : List LinkInMemory → List ℕ → List ℕ → DoorInMemory
new_door conns quiet fails = record {
  waiting = conns;
  ended = [];
  lent = 0;
  quiet = quiet;
  fails = fails;
  calls = 0;
  faults = 0;
  closed = false;
  port = None;
}

-- a link as it was made: nothing was received, sent or refused
abbrev pub IsNewLink : LinkInMemory → Type 0
IsNewLink link =
    link ≡ new_link link.input.whole link.cuts link.output.room link.fails link.output.fails

-- links as they were made
abbrev pub AreNewLinks : List LinkInMemory → Type 0
AreNewLinks links = All IsNewLink links

-- whether the number of the next knock is among these
abbrev pub is_next : List ℕ → DoorInMemory → Bool
is_next calls door = list_any (λ call. call == one_more door.calls) calls

-- the door after a knock that changes nothing else
abbrev pub with_knock : DoorInMemory → DoorInMemory
with_knock door = record door { calls = one_more door.calls }

-- the door after a knock that fails
abbrev pub with_knock_fault : DoorInMemory → DoorInMemory
with_knock_fault door =
    record door { calls = one_more door.calls; faults = one_more door.faults }

-- the door after a knock that answers Closed
abbrev pub with_closed : DoorInMemory → DoorInMemory
with_closed door = record door { calls = one_more door.calls; closed = true }

-- the door after a knock that gives a connection, with these left to give
abbrev pub with_lent : DoorInMemory → List LinkInMemory → DoorInMemory
with_lent door waiting =
    record door { calls = one_more door.calls; waiting = waiting; lent = door.lent + 1 }

-- what a knock answers, and the door after it: it fails if that is planned, is quiet at the other
-- knocks planned to be quiet, and otherwise gives the connections in order and then is closed
abbrev pub Knocks : DoorInMemory → DoorInMemory → Result (Knock LinkInMemory) Failed → Type 0
Knocks before after (Err error) =
    (is_next before.fails before ≡ true) × (after ≡ with_knock_fault before)
Knocks before after (Ok Quiet) = (is_next before.fails before ≡ false)
    × (is_next before.quiet before ≡ true) × (after ≡ with_knock before)
Knocks before after (Ok (Conn conn)) =
    (is_next before.fails before ≡ false) × (is_next before.quiet before ≡ false)
    × (before.waiting ≡ conn ∷ after.waiting) × (after ≡ with_lent before after.waiting)
Knocks before after (Ok Closed) =
    (is_next before.fails before ≡ false) × (is_next before.quiet before ≡ false)
    × (before.waiting ≡ []) × (after ≡ with_closed before)

-- the door after this connection was handed back
abbrev pub with_done : DoorInMemory → LinkInMemory → DoorInMemory
with_done door conn =
    record door { ended = door.ended ++ conn ∷ []; lent = door.lent - 1 }

-- the door as a house gives it, at this port
abbrev pub at_port : DoorInMemory → ℕ → DoorInMemory
at_port door port = record door { port = Some port }

-- the talk of a connection that was handed back
abbrev pub ended_talk : LinkInMemory → EndedTalk
ended_talk link = talk_over (link_told link) (talk_of link)

-- a door in memory tells everything
abbrev pub door_told : DoorInMemory → AtDoor
door_told door = record {
  talks = Some (map ended_talk door.ended);
  lent = door.lent;
  closed = door.closed;
  faults = door.faults;
  port = door.port;
}
