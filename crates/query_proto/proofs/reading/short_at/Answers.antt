use Rattle.query_proto.proofs.Numbers.{read_at}
use Rattle.query_proto.proofs.reading.short_at.Goals as goal

pub returns : goal.returns
returns c = read_at 2 c.args.at c.read_u16.result c.args.frame.now (λ k. (c.type_inv.frame k).fits) c.requires c.read_u16.ensures
