use Rattle.std.proofs.Common.{length}
use Rattle.turn_book.specs.Gathered.{IsGathered}
use Rattle.turn_book.proofs.closing.gather.Given as goal

abbrev pub invariant-loop-next : goal.invariant-loop-next
invariant-loop-next g l = IsGathered g.S.Serial.names l.fn.lock.table_id g.T.Sits.seat l.fn.seats.items l.rest.items l.all

abbrev pub decreases-loop-next : goal.decreases-loop-next
decreases-loop-next g l = length l.rest.items
