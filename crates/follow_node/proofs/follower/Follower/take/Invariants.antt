use Rattle.std.proofs.Common.{◌≡◌, None, take}
use Rattle.follow_node.specs.Streams.{Took}
use Rattle.follow_node.proofs.follower.Follower.take.Given as goal

abbrev pub invariant-loop-byte : goal.invariant-loop-byte
invariant-loop-byte l = Took l.fn.self (take l.byte-index l.fn.piece) l.self × (l.self.fault ≡ None)
