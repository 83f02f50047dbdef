use Rattle.std.proofs.Common.{[], ◌∷◌, refl}
use Rattle.query_proto.specs.Frames.{cell_bytes}
use Rattle.query_proto.specs.declared.kinds.TheConstants as kind
use Rattle.query_proto.proofs.requests.put_query.Goals as goal

pub returns-clause-frame : goal.returns-clause-frame
returns-clause-frame c =
    c.put_cell.ensures.grows (kind.QUERY ∷ cell_bytes c.args.start) c.args.out.now
    (c.put_cell-next.ensures.grows (kind.QUERY ∷ []) c.args.out.now (c.put_byte-at.ensures.grows [] c.args.out.now (refl, refl)))
