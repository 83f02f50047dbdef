use Rattle.session.proofs.Writing.{IsWritten}
use Rattle.session.proofs.telling.write_moves.Given as goal

abbrev pub invariant-loop : goal.invariant-loop
invariant-loop l = IsWritten l.fn.walk l.walk l.cost l.room l.counter
