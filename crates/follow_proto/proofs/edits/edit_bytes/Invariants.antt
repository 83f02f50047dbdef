use Rattle.follow_proto.proofs.Several.{IsPutTo}
use Rattle.follow_proto.proofs.edits.edit_bytes.Given as goal

abbrev pub invariant-loop-change : goal.invariant-loop-change
invariant-loop-change l = IsPutTo l.fn.changes l.change-index l.fn.room l.room l.next
