use Rattle.row_check.proofs.Arriving.{IsFollowed}
use Rattle.row_check.proofs.keys.follow.Given as goal

abbrev pub invariant-loop : goal.invariant-loop
invariant-loop l = IsFollowed l.cursors l.target l.from l.counter l.at l.total
