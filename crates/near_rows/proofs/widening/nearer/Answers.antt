use Rattle.std.proofs.Common.{refl, inl, inr, arith, rules}
use Rattle.near_rows.proofs.widening.nearer.Goals as goal

pub returns-then-least-away : goal.returns-then-least-away
returns-then-least-away c = record {
  most = omega arith;
  right = λ radius less square. (let far = (c.distance-away.ensures radius).1 square in absurd (omega (arith, c.if-least-away.true)));
  met = inl refl;
}

pub returns-then-is_astray : goal.returns-then-is_astray
returns-then-is_astray c = record {
  most = omega (arith, c.if-least-away.false);
  right = λ radius less square. (let far = (c.distance-away.ensures radius).1 square in absurd (omega arith));
  met = inr ((c.distance-away.ensures c.distance-away.result).0 (omega arith), c.if-is_astray.ensures.astray (search rules));
}

pub returns : goal.returns
returns c = record { most = omega arith; right = λ radius less square. c.if-is_astray.ensures.right (search rules); met = inl refl }
