use Rattle.std.proofs.Common.{◌∷◌, ◌++◌}
use Rattle.byteorder.specs.Endian.{big_bytes}
use Rattle.query_proto.proofs.replies.put_three.Goals as goal

pub returns-clause-front : goal.returns-clause-front
returns-clause-front c =
    c.put_number.ensures.grows (c.args.kind ∷ big_bytes 4 c.args.first ++ big_bytes 4 c.args.second) c.args.out.now
    (c.put_number-next.ensures.grows (c.args.kind ∷ big_bytes 4 c.args.first) c.args.out.now c.put_one-at.ensures.front)
