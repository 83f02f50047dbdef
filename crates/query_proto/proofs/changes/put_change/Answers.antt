use Rattle.std.proofs.Common.{[], ◌∷◌, subst}
use Rattle.query_proto.specs.Frames.{GrowsFront, cell_bytes}
use Rattle.query_proto.proofs.Fronts.{grows_twice}
use Rattle.query_proto.proofs.changes.put_change.Goals as goal

pub returns-clause-grows : goal.returns-clause-grows
returns-clause-grows c =
    grows_twice (cell_bytes c.args.change.cell) _ _ _ _ _ _ _ c.put_cell-next.ensures.grows
    (subst (λ b. GrowsFront (b ∷ []) c.put_cell-next.result c.put_cell-next.new.out c.put_byte.new.out c.put_byte.result) c.byte_of_terrain.ensures c.put_byte.ensures.grows)
