use Rattle.pathdb.specs.Calls.{cell_of}
use Rattle.pathdb.proofs.ManyCosts.{AreCosts}
use Rattle.pathdb.proofs.costs.pathdb_costs.Given as goal

abbrev pub invariant-loop-number : goal.invariant-loop-number
invariant-loop-number l = AreCosts l.words (cell_of l.start) l.goals l.fn.costs l.costs l.number
