use Rattle.std.proofs.Common.{◌-◌}
use Rattle.run_pack.proofs.Searching.{IsSearching}
use Rattle.run_pack.proofs.search.Given as goal

abbrev pub invariant-loop-low : goal.invariant-loop-low
invariant-loop-low g l = IsSearching l.row l.place (g.S.Stored.run_of l.found).mv l.low l.high l.fn.steps l.steps

abbrev pub decreases-loop-low : goal.decreases-loop-low
decreases-loop-low g l = l.high - l.low
