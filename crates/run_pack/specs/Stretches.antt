-- What a set does to a run that may still grow: it makes the run longer, or the run ends before it. Inside the crate.
use Rattle.std.specs.Prelude.{◌≡◌, ℕ, ◌<◌}
use Rattle.run_pack.specs.declared.Run.{Run}
use Rattle.run_pack.specs.declared.Stretch.{Stretch}
use Rattle.run_pack.specs.Sets.{IsShared, ShareNone, IsLeastIn}

-- the stretch has grown by one set, with which it shares a move
pub record GrowsBy (old new : Stretch) (set : ℕ) : Type 0 where
  pub start : new.start ≡ old.start
  pub some : 0 < new.common
  pub common : IsShared new.common old.common set

-- the stretch shares no move with the set of this place: it has become that run, and the next one begins there
pub record IsCutBefore (old new : Stretch) (place set : ℕ) (run : Run) : Type 0 where
  pub none : ShareNone old.common set
  pub start : run.start ≡ old.start
  pub least : IsLeastIn old.common run.mv
  pub next_start : new.start ≡ place
  pub next_common : new.common ≡ set
