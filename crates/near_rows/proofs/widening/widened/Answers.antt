use Rattle.std.proofs.Common.{refl, arith}
use Rattle.near_rows.proofs.widening.widened.Goals as goal

pub returns-then-distance-radius : goal.returns-then-distance-radius
returns-then-distance-radius c = record {
  inside = λ square. refl;
  outside = λ out. absurd (out ((c.distance.ensures c.args.radius).0 c.if-distance-radius.true));
}

pub returns : goal.returns
returns c = record {
  inside = λ square. absurd (let near = (c.distance.ensures c.args.radius).1 square in omega (arith, c.if-distance-radius.false));
  outside = λ out. refl;
}
