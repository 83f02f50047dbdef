use Rattle.std.proofs.Common.{inl, inr, arith}
use Rattle.near_rows.proofs.Compasses.{compass_found}
use Rattle.near_rows.proofs.near_walk.move_near.Goals as goal

pub returns-then-distance-radius : goal.returns-then-distance-radius
returns-then-distance-radius c =
    inl
    ((c.distance.ensures _).0 (omega (arith, c.if-distance-radius.true, c.radius.ensures)), compass_found _ _ _ _ _ c.compass.ensures c.requires.apart c.unwrap_or_default.ensures)

pub returns : goal.returns
returns c =
    inr (λ square. absurd (let near = (c.distance.ensures _).1 square in omega (arith, c.if-distance-radius.false, c.radius.ensures)), c.kept_near.ensures)
