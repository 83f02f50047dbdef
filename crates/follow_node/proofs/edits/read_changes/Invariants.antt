use Rattle.std.proofs.Common.{◌≡◌, length}
use Rattle.follow_node.proofs.EditBytes.{IsReadTo}
use Rattle.follow_node.proofs.edits.read_changes.Given as goal

abbrev pub invariant-loop-place : goal.invariant-loop-place
invariant-loop-place l = IsReadTo l.fn.bytes l.room l.place × (length l.room ≡ 64)
