use Rattle.std.proofs.Common.{ℕ, ◌<◌, length, get_or}
use Rattle.kept_rows.specs.Targets.{IsAmong}
use Rattle.kept_rows.proofs.ball.leads_out.Given as goal

abbrev pub invariant-loop-number : goal.invariant-loop-number
invariant-loop-number l = (k : ℕ) → k < l.number → get_or l.edges k 0 < l.count → IsAmong l.ball (length l.ball) (get_or l.edges k 0)
