use Rattle.std.proofs.Common.{ℕ, ◌<◌, length}
use Rattle.moves.specs.FirstSetLists.{cell_of}
use Rattle.kept_sources.specs.Balls.{IsBeside}
use Rattle.kept_rows.specs.Targets.{IsAmong}
use Rattle.kept_rows.proofs.ball.is_round_one.Given as goal

abbrev pub invariant-loop-place : goal.invariant-loop-place
invariant-loop-place l = (k : ℕ) → k < l.place → IsBeside l.hole (cell_of l.cells k) → IsAmong l.ball (length l.ball) k
