use Rattle.std.proofs.Common.{◌≤◌}
use Rattle.kept_rows.proofs.verdict.count_open.Given as goal

abbrev pub invariant-loop-verdict : goal.invariant-loop-verdict
invariant-loop-verdict l = l.count ≤ l.verdict-index
