use Rattle.std.proofs.Common.{[], ◌∷◌, ◌++◌, refl, replicate, arith}
use Rattle.byteorder.specs.Endian.{big_bytes}
use Rattle.follow_proto.specs.Feeds.{ahead_bytes}
use Rattle.follow_proto.specs.declared.kinds.TheConstants.{AHEAD}
use Rattle.follow_proto.proofs.Wholes.{all_of}
use Rattle.follow_proto.proofs.messages.ahead.Goals as goal

pub returns : goal.returns
returns c =
    all_of (ahead_bytes c.args.accepted) (replicate 9 0) _ _ (omega arith)
    (c.put_number.ensures.grows (big_bytes 4 5 ++ AHEAD ∷ []) (replicate 9 0)
    (c.put_byte-number.ensures.grows (big_bytes 4 5) (replicate 9 0) (c.put_number-kind.ensures.grows [] (replicate 9 0) (refl, refl))))
