use Rattle.std.proofs.Common.{[], ◌∷◌, ◌++◌, refl, replicate, arith}
use Rattle.byteorder.specs.Endian.{big_bytes}
use Rattle.follow_proto.specs.Feeds.{ask_bytes}
use Rattle.follow_proto.specs.declared.kinds.TheConstants.{ASK}
use Rattle.follow_proto.proofs.Wholes.{all_of}
use Rattle.follow_proto.proofs.asks.write_ask.Goals as goal

pub returns : goal.returns
returns c =
    all_of (ask_bytes c.args.ask.known) (replicate 5 0) _ _ (omega arith)
    (c.put_number.ensures.grows (ASK ∷ []) (replicate 5 0) (c.put_byte-at.ensures.grows [] (replicate 5 0) (refl, refl)))
