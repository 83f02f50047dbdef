use Rattle.std.proofs.Common.{[], ◌∷◌, refl}
use Rattle.query_proto.specs.declared.kinds.TheConstants as kind
use Rattle.query_proto.proofs.changes.put_one.Goals as goal

pub returns-clause-frame : goal.returns-clause-frame
returns-clause-frame c =
    c.put_change.ensures.grows (kind.CHANGE ∷ []) c.args.out.now (c.put_byte-at.ensures.grows [] c.args.out.now (refl, refl))
