use Rattle.std.proofs.Common.{◌+◌, refl}
use Rattle.byteorder.specs.Endian.{big_bytes}
use Rattle.query_proto.proofs.Fronts.{grows_by}
use Rattle.follow_proto.proofs.writing.put_short.Goals as goal

pub returns-clause-grows : goal.returns-clause-grows
returns-clause-grows c = grows_by (big_bytes 2 c.args.number) c.args.out.now _ c.args.at (c.args.at + 2) c.requires refl c.write_u16.ensures
