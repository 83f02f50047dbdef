-- What a knock at a door says about the door and about the connection that it gave, if it gave one.
use Rattle.std.specs.Prelude.{ℕ, ◌≡◌, ◌+◌, ◌-◌, ◌<◌, ◌||◌, List, Bool, true, false, Option, None, IfSome, IsSome, Result, Ok, Err}
use Rattle.wire.specs.Talks.{AtLink, EndedTalk, with_ended}
use Rattle.wire.specs.declared.door.Knock.{Knock}
use Rattle.wire.specs.declared.door.Knock.TheVariants.{Conn, Quiet, Closed}

-- a claim about the connection that was found, if there is one
abbrev pub IfFound : {C : Type 0} → Knock C → (C → Type 0) → Type 0
IfFound (Conn conn) P = P conn
IfFound Quiet P = Unit {0}
IfFound Closed P = Unit {0}

-- whether the door was found closed
abbrev pub is_closed : {C : Type 0} → Knock C → Bool
is_closed (Conn conn) = false
is_closed Quiet = false
is_closed Closed = true

-- a claim about the connection, if the knock gave one
abbrev pub IfConn : {C E : Type 0} → Result (Knock C) E → (C → Type 0) → Type 0
IfConn (Ok found) P = IfFound found P
IfConn (Err error) P = Unit {0}

-- how many connections it gave: one or none
abbrev pub conns_given : {C E : Type 0} → Result (Knock C) E → ℕ
conns_given (Ok (Conn conn)) = 1
conns_given (Ok Quiet) = 0
conns_given (Ok Closed) = 0
conns_given (Err error) = 0

-- whether it answered that the door is closed
abbrev pub says_closed : {C E : Type 0} → Result (Knock C) E → Bool
says_closed (Ok found) = is_closed found
says_closed (Err error) = false

-- what is known of a door: the talks over the connections that were handed back and how many connections are lent, if
-- it tells them; whether a knock has answered Closed, how often a knock has failed, and the port at which it was given,
-- if it tells it
pub record AtDoor : Type 0 where
  pub talks : Option (List EndedTalk)
  pub lent : ℕ
  pub closed : Bool
  pub faults : ℕ
  pub port : Option ℕ

-- a door that tells only how often a knock has failed
abbrev pub untold_door : ℕ → AtDoor
untold_door faults =
    record { talks = None; lent = 0; closed = false; faults = faults; port = None }

-- a door that tells its talks gives connections that tell theirs
abbrev pub TellsToo : AtDoor → AtLink → Type 0
TellsToo door conn = IfSome door.talks (λ _. IsSome conn.talk)

-- a door that tells its talks has lent a connection that has not been handed back yet
abbrev pub HasLent : AtDoor → Type 0
HasLent door = IfSome door.talks (λ _. 0 < door.lent)

-- what a knock with this answer does: a connection that it gave is lent, and the door may have closed
pub record IsKnock {C E : Type 0} (old : AtDoor) (result : Result (Knock C) E) (new : AtDoor) : Type 0 where
  pub talks : new.talks ≡ old.talks
  pub lent : IfSome old.talks (λ _. new.lent ≡ old.lent + conns_given result)
  pub closed : new.closed ≡ (old.closed || says_closed result)
  pub port : new.port ≡ old.port

-- what handing a connection back does: its talk is over, and it is no longer lent
pub record IsBack (old : AtDoor) (conn : AtLink) (new : AtDoor) : Type 0 where
  pub talks : new.talks ≡ with_ended old.talks conn
  pub lent : IfSome old.talks (λ _. new.lent ≡ old.lent - 1)
  pub closed : new.closed ≡ old.closed
  pub faults : new.faults ≡ old.faults
  pub port : new.port ≡ old.port
