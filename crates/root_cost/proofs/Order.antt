-- The laws of the cost order: any two costs compare, comparisons chain, and two costs are at most each other only as
-- equal pairs. The order depends on differences alone.
use Rattle.std.proofs.Common.{◌≡◌, ℕ, ◌+◌, ◌-◌, ◌↔◌, true, inl, inr, arith, sym, ap, subst, ◌∙◌, true≢false, is_le, is_lt}
use Rattle.root_cost.specs.declared.Cost.{Cost}
use Rattle.root_cost.specs.Costs.{IsBelow, IsAtMost}
use Rattle.root_cost.specs.Compared.{cost_cmp}
use Rattle.root_cost.specs.Laws.{IsLess}
pub use Rattle.root_cost.specs.Lawful.Order.{by_diagonal, by_straight, same_fields, at_most_itself, at_most_trans, at_most_total, at_most_antisymmetric}
pub use Rattle.root_cost.specs.Lawful.Comparing.{cases_cost, compared_as, cmp_equal, cmp_less, cmp_greater, less_trans, apart_if_less}

-- a + b√2 - (c + d√2) alone decides
below_moved : (a b c d e f g h : ℕ) → a + g ≡ e + c → b + h ≡ f + d → IsBelow a b c d → IsBelow e f g h
below_moved a b c d e f g h m n (inl k) = inl (omega arith, omega arith)
below_moved a b c d e f g h m n (inr (inl k)) = by_diagonal e f g h (a - c) (d - b) k.2 (omega arith) (omega arith)
below_moved a b c d e f g h m n (inr (inr k)) = by_straight e f g h (c - a) (b - d) k.2 (omega arith) (omega arith)

-- the order depends on the differences alone
pub at_most_moved : (x y u v : Cost) → x.straight + v.straight ≡ u.straight + y.straight → x.diagonal + v.diagonal ≡ u.diagonal + y.diagonal → IsAtMost x y → IsAtMost u v
unfolding IsAtMost
at_most_moved x y u v h k l = below_moved x.straight x.diagonal y.straight y.diagonal u.straight u.diagonal v.straight v.diagonal h k l

pub at_most_same : (x y : Cost) → x ≡ y → IsAtMost x y
at_most_same x y e = subst (λ z. IsAtMost x z) e (at_most_itself x)

pub less_at_most_trans : (x y z : Cost) → IsLess x y → IsAtMost y z → IsLess x z
less_at_most_trans x y z h k = (at_most_trans x y z h.0 k, λ l. h.1 (at_most_trans y z x k l))

pub at_most_less_trans : (x y z : Cost) → IsAtMost x y → IsLess y z → IsLess x z
at_most_less_trans x y z h k = (at_most_trans x y z h k.0, λ l. k.1 (at_most_trans z x y l h))

-- ---- the tests `<=` and `<`

le_answers : (x y : Cost) → is_le (cost_cmp x y) ≡ true → IsAtMost x y
le_answers x y e = elim (cases_cost x y) [
  | inl f ↦ at_most_same x y f
  | inr (inl l) ↦ l.0
  | inr (inr l) ↦ absurd (true≢false (sym e ∙ ap is_le (cmp_greater x y l)))
]

le_answered : (x y : Cost) → IsAtMost x y → is_le (cost_cmp x y) ≡ true
le_answered x y h = elim (cases_cost x y) [
  | inl f ↦ ap is_le (cmp_equal x y f)
  | inr (inl l) ↦ ap is_le (cmp_less x y l)
  | inr (inr l) ↦ absurd (l.1 h)
]

pub is_le-cost_cmp : (x y : Cost) → (is_le (cost_cmp x y) ≡ true) ↔ IsAtMost x y
is_le-cost_cmp x y = (le_answers x y, le_answered x y)

lt_answers : (x y : Cost) → is_lt (cost_cmp x y) ≡ true → IsLess x y
lt_answers x y e = elim (cases_cost x y) [
  | inl f ↦ absurd (true≢false (sym e ∙ ap is_lt (cmp_equal x y f)))
  | inr (inl l) ↦ l
  | inr (inr l) ↦ absurd (true≢false (sym e ∙ ap is_lt (cmp_greater x y l)))
]

pub is_lt-cost_cmp : (x y : Cost) → (is_lt (cost_cmp x y) ≡ true) ↔ IsLess x y
is_lt-cost_cmp x y = (lt_answers x y, λ l. ap is_lt (cmp_less x y l))
