use Rattle.std.proofs.Common.{inl, inr}
use Rattle.lane_rows.proofs.kernels.set_at.Goals as goal

pub returns : goal.returns
returns c = λ lane l. record {
  within = λ first h. elim (c.with_first.ensures.within lane first l h) [ inl a ↦ inl ((c.union.ensures lane first l).0 a) | inr b ↦ inr b ];
  brought = λ first h. c.with_first.ensures.kept lane first l ((c.union.ensures lane first l).1 h);
  started = λ none first start. c.with_first.ensures.started lane first l (λ move h. none move ((c.union.ensures lane move l).0 h)) start;
}
