use Rattle.byteorder.specs.Endian.{big_bytes}
use Rattle.query_proto.proofs.Fronts.{grows_twice}
use Rattle.query_proto.proofs.writing.put_cell.Goals as goal

pub returns-clause-grows : goal.returns-clause-grows
returns-clause-grows c = grows_twice (big_bytes 2 c.args.cell.x) (big_bytes 2 c.args.cell.y) _ _ _ _ _ _ c.put_short-row.ensures.grows c.put_short.ensures.grows
