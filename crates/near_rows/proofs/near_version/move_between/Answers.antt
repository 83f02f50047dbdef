use Rattle.std.proofs.Common.{inl, inr, arith}
use Rattle.near_rows.proofs.Compasses.{compass_found}
use Rattle.near_rows.proofs.near_version.move_between.Goals as goal

pub returns-then-distance-radius-clause-is : goal.returns-then-distance-radius-clause-is
returns-then-distance-radius-clause-is g c =
    inl
    ((c.distance.ensures _).0 (omega (arith, c.if-distance-radius.true, c.radius.ensures)), compass_found _ _ _ _ _ c.compass.ensures c.requires.apart c.unwrap_or_default.ensures)

pub returns-clause-is : goal.returns-clause-is
returns-clause-is g c =
    inr (λ square. absurd (let near = (c.distance.ensures _).1 square in omega (arith, c.if-distance-radius.false, c.radius.ensures)), c.kept.ensures.found)

pub returns-clause-none : goal.returns-clause-none
returns-clause-none g c = λ square. absurd (let near = (c.distance.ensures _).1 square in omega (arith, c.if-distance-radius.false, c.radius.ensures))
