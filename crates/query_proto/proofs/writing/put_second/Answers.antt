use Rattle.std.proofs.Common.{[], ◌∷◌, refl}
use Rattle.query_proto.proofs.writing.put_second.Goals as goal

pub returns-clause-front : goal.returns-clause-front
returns-clause-front c = c.put_byte.ensures.grows (c.args.kind ∷ []) c.args.out.now (c.put_byte-at.ensures.grows [] c.args.out.now (refl, refl))
