-- How long to wait for a connection, in seconds, and why it is ended. A moment is in nanoseconds of the clock.
use Rattle.std.specs.Prelude.{◌≡◌, ◌*◌, ◌-◌, ◌≤◌, ℕ, Option, Some, None}
use Rattle.std.specs.Time.{instant_nanos}
use Rattle.std.specs.declared.time.Instant.{Instant}
use Rattle.wire.specs.declared.patience.Awaited.{Awaited}
use Rattle.wire.specs.declared.patience.Awaited.TheVariants.{Frame, Ask, Rest, Taking, Answer}
use Rattle.wire.specs.declared.patience.Cause.{Cause}
use Rattle.wire.specs.declared.patience.Cause.TheVariants as cause
use Rattle.wire.specs.declared.patience.Waiting.{Waiting}

-- how long each may take
abbrev pub limit_of : Awaited → ℕ
limit_of Frame = 300
limit_of Ask = 30
limit_of Rest = 10
limit_of Taking = 30
limit_of Answer = 120

-- why a connection is ended if it takes longer
abbrev pub cause_of : Awaited → Cause
cause_of Frame = cause.Silent
cause_of Ask = cause.Unasked
cause_of Rest = cause.SlowFrame
cause_of Taking = cause.SlowReply
cause_of Answer = cause.NoAnswer

-- the wait is for something that comes in, and ends with the server
abbrev pub IsAsked : Awaited → Type 0
IsAsked Frame = Unit {0}
IsAsked Ask = Unit {0}
IsAsked Rest = Unit {0}
IsAsked Taking = ⊥
IsAsked Answer = ⊥

-- at least this many seconds lie between two moments
abbrev pub HasPassed : ℕ → ℕ → ℕ → Type 0
HasPassed seconds since now = seconds * 1_000_000_000 ≤ now - since

-- the wait has taken as long as it may
abbrev pub IsLate : Waiting → Instant → Type 0
IsLate waiting now = HasPassed (limit_of waiting.what) (instant_nanos waiting.since) (instant_nanos now)

-- the server was stopped, and 10 seconds have passed since then
abbrev pub IsOver : Option Instant → Instant → Type 0
IsOver None now = ⊥
IsOver (Some at) now = HasPassed 10 (instant_nanos at) (instant_nanos now)

-- the wait ends with the server, and the server's time is over
abbrev pub IsClosing : Waiting → Option Instant → Instant → Type 0
IsClosing waiting stopped now = IsAsked waiting.what × IsOver stopped now

-- since when a wait for this goes on at this moment: an earlier wait goes on if it was for the same
abbrev pub GoesOnSince : Option Waiting → Awaited → Instant → Instant → Type 0
GoesOnSince None what now since = since ≡ now
GoesOnSince (Some before) what now since =
    (before.what ≡ what → since ≡ before.since) × ((before.what ≡ what → ⊥) → since ≡ now)

-- only a wait for the rest of a frame goes on
abbrev pub IsRestOf : Option Waiting → Option Waiting → Type 0
IsRestOf None after = after ≡ None
IsRestOf (Some before) after =
    (before.what ≡ Rest → after ≡ Some before) × ((before.what ≡ Rest → ⊥) → after ≡ None)
