use Rattle.std.proofs.Common.{◌+◌, [], ◌∷◌, ◌++◌, ap₂, subst}
use Rattle.byteorder.specs.Endian.{big_bytes}
use Rattle.query_proto.specs.Frames.{StandsAtFront}
use Rattle.query_proto.specs.declared.kinds.TheConstants as kind
use Rattle.query_proto.proofs.replies.put_refused.Goals as goal

pub returns-clause-front : goal.returns-clause-front
returns-clause-front c =
    subst (λ b. StandsAtFront (kind.REFUSED ∷ big_bytes 4 c.args.version ++ b) c.args.out.now c.put_byte.new.out c.put_byte.result)
    (ap₂ (λ x y. (1 + x) ∷ y ∷ []) c.byte_of_flag.ensures.value c.byte_of_flag-2.ensures.value)
    (c.put_byte.ensures.grows (kind.REFUSED ∷ big_bytes 4 c.args.version ++ (1 + c.byte_of_flag.result) ∷ []) c.args.out.now
    (c.put_byte-next.ensures.grows (kind.REFUSED ∷ big_bytes 4 c.args.version) c.args.out.now c.put_one-at.ensures.front))
