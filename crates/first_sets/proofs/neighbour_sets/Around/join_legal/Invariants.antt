-- The set has what the moves with lower numbers bring.
use Rattle.first_sets.proofs.Besides.{IsBroughtBelow}
use Rattle.first_sets.proofs.neighbour_sets.Around.join_legal.Given as goal

abbrev pub invariant-loop-number : goal.invariant-loop-number
invariant-loop-number l = IsBroughtBelow l.self.width l.keys l.sets l.legal l.place l.number l.set
