use Rattle.follow_node.proofs.TerrainBytes.{no_terrain}
use Rattle.follow_node.proofs.starts.terrain_in.Goals as goal

pub returns-in-None : goal.returns-in-None
returns-in-None c = no_terrain c.args.bytes.now c.loop-byte.byte-index c.in-None.ensures
