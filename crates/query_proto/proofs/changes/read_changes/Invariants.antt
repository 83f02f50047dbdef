use Rattle.std.proofs.Common.{◌≡◌, length}
use Rattle.query_proto.proofs.Several.{IsReadTo}
use Rattle.query_proto.proofs.changes.read_changes.Given as goal

abbrev pub invariant-loop-place : goal.invariant-loop-place
invariant-loop-place l = IsReadTo l.initial.frame l.changes l.place × (length l.changes ≡ length l.initial.changes)
