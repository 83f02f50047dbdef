use Rattle.std.proofs.Common.{◌+◌, ◌≤◌}
use Rattle.follow_node.proofs.EditBytes.{AreReadTo}
use Rattle.follow_node.proofs.edits.read_edits.Given as goal

abbrev pub invariant-loop : goal.invariant-loop
invariant-loop l = AreReadTo l.fn.bytes l.fn.count l.edits.edits l.at l.counter × (l.fn.count ≤ l.counter + l.edits.spare)
