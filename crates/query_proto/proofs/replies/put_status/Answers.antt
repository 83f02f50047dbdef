use Rattle.std.proofs.Common.{◌∷◌, ◌++◌}
use Rattle.byteorder.specs.Endian.{big_bytes}
use Rattle.query_proto.specs.declared.kinds.TheConstants as kind
use Rattle.query_proto.proofs.replies.put_status.Goals as goal

pub returns-clause-front : goal.returns-clause-front
returns-clause-front c =
    c.put_number.ensures.grows (kind.BOARD ∷ big_bytes 4 c.args.version ++ big_bytes 4 c.args.accepted ++ big_bytes 4 c.args.cells) c.args.out.now c.put_three-at.ensures.front
