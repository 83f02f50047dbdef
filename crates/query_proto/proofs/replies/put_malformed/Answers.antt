use Rattle.std.proofs.Common.{[], ◌∷◌, refl}
use Rattle.query_proto.specs.declared.kinds.TheConstants as kind
use Rattle.query_proto.proofs.replies.put_malformed.Goals as goal

pub returns-clause-front : goal.returns-clause-front
returns-clause-front c =
    c.put_short.ensures.grows (kind.MALFORMED ∷ c.args.kind ∷ []) c.args.out.now
    (c.put_byte-next.ensures.grows (kind.MALFORMED ∷ []) c.args.out.now (c.put_byte-at.ensures.grows [] c.args.out.now (refl, refl)))
