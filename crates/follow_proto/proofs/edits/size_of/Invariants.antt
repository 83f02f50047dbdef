use Rattle.std.proofs.Common.{drop}
use Rattle.follow_proto.proofs.Several.{IsCountedTo}
use Rattle.follow_proto.proofs.edits.size_of.Given as goal

abbrev pub invariant-loop-place : goal.invariant-loop-place
invariant-loop-place l = IsCountedTo (drop l.fn.first l.fn.edits.edits) l.place l.size
