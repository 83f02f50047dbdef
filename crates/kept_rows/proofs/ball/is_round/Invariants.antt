use Rattle.std.proofs.Common.{ℕ, ◌<◌, get_or}
use Rattle.moves.specs.FirstSetLists.{cell_of}
use Rattle.kept_rows.specs.Targets.{IsRound}
use Rattle.kept_rows.proofs.ball.is_round.Given as goal

abbrev pub invariant-loop-gap : goal.invariant-loop-gap
invariant-loop-gap l = (k : ℕ) → k < l.gap-index → IsRound l.part (cell_of l.whole (get_or l.gaps k 0)) l.ball
