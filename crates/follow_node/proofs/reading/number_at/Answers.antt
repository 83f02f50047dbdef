use Rattle.query_proto.proofs.Numbers.{read_at}
use Rattle.follow_node.proofs.reading.number_at.Goals as goal

pub returns : goal.returns
returns c = read_at 4 c.args.at c.read_u32.result c.args.bytes.now (λ k. (c.type_inv.bytes k).fits) c.requires c.read_u32.ensures
