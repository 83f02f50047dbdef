use Rattle.std.proofs.Common.{[], ◌∷◌, ◌++◌, subst}
use Rattle.byteorder.specs.Endian.{big_bytes}
use Rattle.query_proto.specs.Frames.{GrowsFront, cell_bytes}
use Rattle.query_proto.proofs.Fronts.{grows_twice}
use Rattle.follow_proto.proofs.writing.put_change.Goals as goal

pub returns-clause-grows : goal.returns-clause-grows
returns-clause-grows c =
    grows_twice (cell_bytes c.args.change.cell) _ _ _ _ _ _ _
    (grows_twice (big_bytes 2 c.args.change.cell.x) (big_bytes 2 c.args.change.cell.y) _ _ _ _ _ _ c.put_short-row.ensures.grows c.put_short-last.ensures.grows)
    (subst (λ b. GrowsFront (b ∷ []) c.put_short-last.result c.put_short-last.new.out c.put_byte.new.out c.put_byte.result) c.terrain_byte.ensures c.put_byte.ensures.grows)
