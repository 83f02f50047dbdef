-- What is read from a board.
use Rattle.std.specs.Prelude.{◌≡◌, ◌↔◌, ℕ, true, length, drop, IsTrue}
use Rattle.moves.specs.Maps.{passable_count}
use Rattle.versions.specs.Databases.{runs_of}
use Rattle.path_core.specs.declared.board.Look.{Look}
use Rattle.path_core.specs.declared.board.Job.{Job}
use Rattle.path_core.specs.Boards.{Boarded}
use Rattle.path_core.specs.Histories.{accepted_count, edits_of, published_prefix, IsHalting}

-- the look shows the board's published version, how many edits were accepted, and whether the board is halting
pub record IsLook (board : Boarded) (look : Look) : Type 0 where
  pub prefix : look.prefix ≡ published_prefix board.history
  pub cells : look.totals.cells ≡ passable_count board.version.map
  pub comps : look.totals.comps ≡ length board.version.comps
  pub runs : look.totals.runs ≡ runs_of board.version.comps
  pub accepted : look.accepted ≡ accepted_count board.history
  pub halting : IsTrue look.halting ↔ IsHalting board.history
  pub held : look.held ≡ true

-- the job has the accepted edits past the first `known`
pub record IsJob (board : Boarded) (known : ℕ) (job : Job) : Type 0 where
  pub prefix : job.prefix ≡ accepted_count board.history
  pub edits : job.edits.edits ≡ drop known (edits_of board.history)
