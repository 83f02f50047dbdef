-- Counts of faults, one call after another.
use Rattle.std.proofs.Common.{refl, ◌∙◌, arith}
use Rattle.wire.specs.Houses.{AtHouse, OnlyCalls, OnlyDoors}
use Rattle.wire.specs.Talks.{AtLink, IsLater, OnlyReads, OnlyWrites, ReadFails, WriteFails}

module _ (old : AtLink) where
  -- nothing was received
  pub no_reads : OnlyReads old old
  no_reads = record { later = omega arith; other = refl }

  -- nothing was sent
  pub no_writes : OnlyWrites old old
  no_writes = record { later = omega arith; other = refl }

  -- nothing was done
  pub no_calls : IsLater old old
  no_calls = record { reads = omega arith; writes = omega arith }

module _ (old between new : AtLink) where
  -- one recv after others
  pub reads_on : OnlyReads old between → OnlyReads between new → OnlyReads old new
  reads_on first second = record {
    later = omega (arith, first.later, second.later);
    other = second.other ∙ first.other;
  }

  -- one send after others
  pub writes_on : OnlyWrites old between → OnlyWrites between new → OnlyWrites old new
  writes_on first second = record {
    later = omega (arith, first.later, second.later);
    other = second.other ∙ first.other;
  }

  -- one call after others
  pub later_on : IsLater old between → IsLater between new → IsLater old new
  later_on first second = record {
    reads = omega (arith, first.reads, second.reads);
    writes = omega (arith, first.writes, second.writes);
  }

  -- a recv that fails after other calls
  pub read_fails_on : IsLater old between → ReadFails between new → ReadFails old new
  read_fails_on first fails = omega (arith, first.reads, fails)

  -- a send that fails after other calls
  pub write_fails_on : IsLater old between → WriteFails between new → WriteFails old new
  write_fails_on first fails = omega (arith, first.writes, fails)

module _ {old new : AtLink} where
  -- recvs alone let no count fall
  pub reads_later : OnlyReads old new → IsLater old new
  reads_later counts = record { reads = counts.later; writes = omega (arith, counts.other) }

  -- sends alone let no count fall
  pub writes_later : OnlyWrites old new → IsLater old new
  writes_later counts = record { reads = omega (arith, counts.other); writes = counts.later }

module _ {D C : Type 0} where
  -- nothing was asked for
  pub no_doors : (old : AtHouse D C) → OnlyDoors old old
  no_doors old = record { called = refl; reads = refl; writes = refl }

  -- doors after doors
  pub doors_on : {old between new : AtHouse D C} → OnlyDoors old between → OnlyDoors between new
      → OnlyDoors old new
  doors_on first second = record {
    called = second.called ∙ first.called;
    reads = second.reads ∙ first.reads;
    writes = second.writes ∙ first.writes;
  }

  -- nothing was asked for
  pub no_call : (old : AtHouse D C) → OnlyCalls old old
  no_call old = record { asked = refl; door_faults = refl }

  -- a call after a call
  pub calls_on : {old between new : AtHouse D C} → OnlyCalls old between → OnlyCalls between new
      → OnlyCalls old new
  calls_on first second = record {
    asked = second.asked ∙ first.asked;
    door_faults = second.door_faults ∙ first.door_faults;
  }
