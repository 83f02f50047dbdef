use Rattle.query_proto.proofs.SpelledMoves.{IsSpelled}
use Rattle.query_proto.proofs.replies.spelled_cost.Given as goal

abbrev pub invariant-loop-byte : goal.invariant-loop-byte
invariant-loop-byte l = IsSpelled l.fn.bytes l.byte-index l.cost
