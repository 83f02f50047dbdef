-- What `cmp` answers is the cost order, and has the laws that std asks of `Ord`.
use Rattle.std.proofs.Common.{◌≡◌, ℕ, ◌⊎◌, inl, inr, refl, arith, sym, ap, subst, ◌∙◌, true, false, nat_eq, ◌&&◌, Less, Equal, Greater}
use Rattle.std.specs.Ordering.{MatchOrdering, ordering_reverse, eq_by_cmp}
use Rattle.std.specs.Cmp.{IsTotalOrder}
use Rattle.std.proofs.lemmas.Bool.{cases_Bool, true≢false}
use Rattle.std.proofs.lemmas.Bool.Decides.{nat_tests}
use Rattle.root_cost.specs.declared.Cost.{Cost}
use Rattle.root_cost.specs.Compared.{is_below, same_cost, cost_cmp}
use Rattle.root_cost.specs.Costs.{IsBelow, IsAtMost}
use Rattle.root_cost.specs.Laws.{IsLess}
use Rattle.root_cost.specs.Lawful.Order.{at_most_itself, at_most_trans, at_most_total, at_most_antisymmetric, same_fields}

below_if_tested : (a b c d : ℕ) → is_below a b c d ≡ true → IsBelow a b c d
below_if_tested a b c d h = grind (arith, nat_tests)

tested_if_below : (a b c d : ℕ) → IsBelow a b c d → is_below a b c d ≡ true
tested_if_below a b c d h = grind (arith, nat_tests)

fields_if_same : (a b c d : ℕ) → (nat_eq a c && nat_eq b d) ≡ true → (a ≡ c) × (b ≡ d)
fields_if_same a b c d h = grind (arith, nat_tests)

same_if_fields : (a b c d : ℕ) → a ≡ c → b ≡ d → (nat_eq a c && nat_eq b d) ≡ true
same_if_fields a b c d h k = grind (arith, nat_tests)

-- each fact about the tests, for costs
same_if_equal : (x y : Cost) → x ≡ y → same_cost x y ≡ true
same_if_equal x y e = same_if_fields x.straight x.diagonal y.straight y.diagonal (ap (λ z. z.straight) e) (ap (λ z. z.diagonal) e)

equal_if_same : (x y : Cost) → same_cost x y ≡ true → x ≡ y
equal_if_same x y e =
    let fields : (x.straight ≡ y.straight) × (x.diagonal ≡ y.diagonal) = fields_if_same x.straight x.diagonal y.straight y.diagonal e in
    same_fields x y fields.0 fields.1

unlike : (x y : Cost) → (x ≡ y → ⊥) → same_cost x y ≡ false
unlike x y apart = elim (cases_Bool (same_cost x y)) [ inl e ↦ absurd (apart (equal_if_same x y e)) | inr e ↦ e ]

pub at_most_if_tested : (x y : Cost) → is_below x.straight x.diagonal y.straight y.diagonal ≡ true → IsAtMost x y
unfolding IsAtMost
at_most_if_tested x y e = below_if_tested x.straight x.diagonal y.straight y.diagonal e

pub tested_if_at_most : (x y : Cost) → IsAtMost x y → is_below x.straight x.diagonal y.straight y.diagonal ≡ true
unfolding IsAtMost
tested_if_at_most x y h = tested_if_below x.straight x.diagonal y.straight y.diagonal h

-- costs are equal, or one is less
pub cases_cost : (x y : Cost) → (x ≡ y) ⊎ (IsLess x y ⊎ IsLess y x)
cases_cost x y = elim (cases_Bool (same_cost x y)) [
  | inl e ↦ inl (equal_if_same x y e)
  | inr e ↦
      let apart : x ≡ y → ⊥ = λ f. true≢false (sym (same_if_equal x y f) ∙ e) in
      elim (at_most_total x y) [
        | inl h ↦ inr (inl (h, λ k. apart (at_most_antisymmetric x y h k)))
        | inr h ↦ inr (inr (h, λ k. apart (at_most_antisymmetric x y k h)))
      ]
]

pub apart_if_less : (x y : Cost) → IsLess x y → x ≡ y → ⊥
apart_if_less x y l e = l.1 (subst (λ z. IsAtMost z x) e (at_most_itself x))

pub cmp_equal : (x y : Cost) → x ≡ y → cost_cmp x y ≡ Equal
unfolding cost_cmp
cmp_equal x y e = rw (same_if_equal x y e) refl

pub cmp_less : (x y : Cost) → IsLess x y → cost_cmp x y ≡ Less
unfolding cost_cmp
cmp_less x y l = rw (unlike x y (apart_if_less x y l), tested_if_at_most x y l.0) refl

pub cmp_greater : (x y : Cost) → IsLess y x → cost_cmp x y ≡ Greater
unfolding cost_cmp
cmp_greater x y l =
    let tested = is_below x.straight x.diagonal y.straight y.diagonal in
    let untested : tested ≡ false = elim (cases_Bool tested) [
      | inl e ↦ absurd (l.1 (at_most_if_tested x y e))
      | inr e ↦ e
    ] in
    rw (unlike x y (λ e. apart_if_less y x l (sym e)), untested) refl

-- what the tests of `cmp` lead to
pub Equal-if_same : (x y : Cost) → same_cost x y ≡ true → Equal ≡ cost_cmp x y
Equal-if_same x y e = sym (cmp_equal x y (equal_if_same x y e))

pub Less-if_at_most : (x y : Cost) → same_cost x y ≡ false → IsAtMost x y → Less ≡ cost_cmp x y
Less-if_at_most x y e h = sym (cmp_less x y (h, λ k. true≢false (sym (same_if_equal x y (at_most_antisymmetric x y h k)) ∙ e)))

pub Greater-if_at_most : (x y : Cost) → same_cost x y ≡ false → IsAtMost y x → Greater ≡ cost_cmp x y
Greater-if_at_most x y e h = sym (cmp_greater x y (h, λ k. true≢false (sym (same_if_equal x y (at_most_antisymmetric x y k h)) ∙ e)))

pub compared_as : (x y : Cost) → MatchOrdering (cost_cmp x y) (IsLess x y) (x ≡ y) (IsLess y x)
compared_as x y = elim (cases_cost x y) [
  | inl e ↦ rw (cmp_equal x y e) e
  | inr (inl l) ↦ rw (cmp_less x y l) l
  | inr (inr l) ↦ rw (cmp_greater x y l) l
]

pub less_trans : (x y z : Cost) → IsLess x y → IsLess y z → IsLess x z
less_trans x y z h k = (at_most_trans x y z h.0 k.0, λ l. k.1 (at_most_trans z x y l h.0))

less_if_answered : (x y : Cost) → cost_cmp x y ≡ Less → IsLess x y
less_if_answered x y e = subst (λ o. MatchOrdering o (IsLess x y) (x ≡ y) (IsLess y x)) e (compared_as x y)

equal_if_answered : (x y : Cost) → cost_cmp x y ≡ Equal → x ≡ y
equal_if_answered x y e = subst (λ o. MatchOrdering o (IsLess x y) (x ≡ y) (IsLess y x)) e (compared_as x y)

turned : (x y : Cost) → cost_cmp x y ≡ ordering_reverse (cost_cmp y x)
turned x y = elim (cases_cost x y) [
  | inl e ↦ rw (cmp_equal x y e, cmp_equal y x (sym e)) refl
  | inr (inl l) ↦ rw (cmp_less x y l, cmp_greater y x l) refl
  | inr (inr l) ↦ rw (cmp_greater x y l, cmp_less y x l) refl
]

pub cost_cmp_total : IsTotalOrder cost_cmp
cost_cmp_total = record {
  antisymm = turned;
  trans = λ x y z h k. cmp_less x z (less_trans x y z (less_if_answered x y h) (less_if_answered y z k));
  congr = λ x y z e. ap (λ w. cost_cmp w z) (equal_if_answered x y e);
}

pub cost_cmp_ties : (x y : Cost) → same_cost x y ≡ eq_by_cmp cost_cmp x y
cost_cmp_ties x y = elim (cases_cost x y) [
  | inl e ↦ rw (same_if_equal x y e, cmp_equal x y e) refl
  | inr (inl l) ↦ rw (unlike x y (apart_if_less x y l), cmp_less x y l) refl
  | inr (inr l) ↦ rw (unlike x y (λ e. apart_if_less y x l (sym e)), cmp_greater x y l) refl
]
