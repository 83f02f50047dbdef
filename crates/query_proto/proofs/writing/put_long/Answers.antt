use Rattle.std.proofs.Common.{◌+◌, refl}
use Rattle.byteorder.specs.Endian.{big_bytes}
use Rattle.query_proto.proofs.Fronts.{grows_by}
use Rattle.query_proto.proofs.writing.put_long.Goals as goal

pub returns-clause-grows : goal.returns-clause-grows
returns-clause-grows c = grows_by (big_bytes 8 c.args.number) c.args.out.now _ c.args.at (c.args.at + 8) c.requires refl c.write_u64.ensures
