use Rattle.near_rows.proofs.Greatest.{IsGreatestTo}
use Rattle.near_rows.proofs.nearby.greatest_of.Given as goal

abbrev pub invariant-loop-number : goal.invariant-loop-number
invariant-loop-number l = IsGreatestTo l.numbers l.number-index l.greatest
