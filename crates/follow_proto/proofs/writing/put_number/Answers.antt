use Rattle.std.proofs.Common.{◌+◌, refl}
use Rattle.byteorder.specs.Endian.{big_bytes}
use Rattle.query_proto.proofs.Fronts.{grows_by}
use Rattle.follow_proto.proofs.writing.put_number.Goals as goal

pub returns-clause-grows : goal.returns-clause-grows
returns-clause-grows c = grows_by (big_bytes 4 c.args.number) c.args.out.now _ c.args.at (c.args.at + 4) c.requires refl c.write_u32.ensures
