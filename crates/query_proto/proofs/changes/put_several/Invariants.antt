use Rattle.query_proto.proofs.Several.{IsPutTo}
use Rattle.query_proto.proofs.changes.put_several.Given as goal

abbrev pub invariant-loop-change : goal.invariant-loop-change
invariant-loop-change l = IsPutTo l.fn.changes l.change-index l.fn.out l.out l.next
