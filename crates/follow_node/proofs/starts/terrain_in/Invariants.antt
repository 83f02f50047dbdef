use Rattle.follow_node.proofs.TerrainBytes.{IsReadTo}
use Rattle.follow_node.proofs.starts.terrain_in.Given as goal

abbrev pub invariant-loop-byte : goal.invariant-loop-byte
invariant-loop-byte l = IsReadTo l.fn.bytes l.terrain.items l.byte-index
