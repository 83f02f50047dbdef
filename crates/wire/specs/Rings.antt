-- What an ear hears, and what it keeps of that.
use Rattle.std.specs.Prelude.{ℕ, ◌-◌, Bool, true, false, ◌||◌, ◌==◌, cond}
use Rattle.wire.specs.Causes.{one_more}
use Rattle.wire.specs.declared.bell.Ring.{Ring}
use Rattle.wire.specs.declared.bell.Ring.TheVariants.{Rung, Shut}

-- a count of rings after this answer
abbrev pub rings_in : Ring → ℕ → ℕ
rings_in Rung count = one_more count
rings_in Shut count = count

-- whether the answer is that the bell was shut
abbrev pub says_shut : Ring → Bool
says_shut Rung = false
says_shut Shut = true

-- what is known of an ear: how often it answered Rung, and whether it answered Shut
pub record AtEar : Type 0 where
  pub rung : ℕ
  pub over : Bool

-- the ear after it answered this
abbrev pub with_heard : AtEar → Ring → AtEar
with_heard ear ring =
    record { rung = rings_in ring ear.rung; over = ear.over || says_shut ring }

-- an ear that counts: how many rings it will hear, how many it has heard, and whether it heard that
-- the bell was shut
pub record EarInMemory : Type 0 where
  pub left : ℕ
  pub rung : ℕ
  pub over : Bool

-- an ear that has heard nothing yet
abbrev pub new_ear : ℕ → EarInMemory
new_ear rings = record { left = rings; rung = 0; over = false }

-- what the next wait answers: a ring while some are left
abbrev pub next_ring : EarInMemory → Ring
next_ring ear = cond (ear.left == 0) Shut Rung

-- the ear after this answer
abbrev pub with_ring : EarInMemory → Ring → EarInMemory
with_ring ear ring = record {
  left = ear.left - 1;
  rung = rings_in ring ear.rung;
  over = ear.over || says_shut ring;
}
