-- The order of costs: reflexive, transitive, total, and antisymmetric; and it depends on differences alone.
use Rattle.std.proofs.Common.{◌≡◌, ℕ, ◌+◌, ◌-◌, ◌*◌, ◌<◌, ◌≤◌, ◌⊎◌, inl, inr, arith}
use Rattle.std.proofs.lemmas.Nat.{mul-le, mul-lt}
use Rattle.std.proofs.lemmas.Bool.{cases_lt}
use Rattle.root_cost.specs.Costs.{IsAtMostRoot, IsAtLeastRoot, IsBelow, IsAtMost}
use Rattle.root_cost.specs.declared.Cost.{Cost}
use Rattle.root_cost.specs.Lawful.Squares.{sum_le, sum_ge, rest_le, rest_ge, at_most_along, at_least_along, no_root}

-- from (a, b) to (e, f) by winning q diagonal steps for p straight ones, and p2 straight ones for q2 diagonal ones
mixed : (a b e f p q p2 q2 : ℕ) → IsAtMostRoot p q → IsAtLeastRoot p2 q2 → a + p2 ≡ e + p → b + q ≡ f + q2 → IsBelow a b e f
mixed a b e f p q p2 q2 h k g l = elim (cases_lt e a) [
  | inl m ↦ elim (cases_lt b f) [
    | inl n ↦ inr (inl (m, n, rest_le (a - e) (f - b) p2 q2 (at_most_along (a - e + p2) (f - b + q2) p q (omega arith) (omega arith) h) k))
    | inr n ↦ absurd (omega (arith, mul-lt p2 p2 p p (omega arith) (omega arith), mul-le q q q2 q2 (omega arith) (omega arith)))
  ]
  | inr m ↦ elim (cases_lt f b) [
    | inr n ↦ inl (m, n)
    | inl n ↦
        let together = at_least_along (e - a + p) (b - f + q) p2 q2 (omega arith) (omega arith) k in
        let c : IsAtLeastRoot (e - a) (b - f) = rest_ge (e - a) (b - f) p q together h in
        elim (cases_lt a e) [
          | inl o ↦ inr (inr (o, n, c))
          | inr o ↦ absurd (omega (arith, mul-le p2 p2 p p (omega arith) (omega arith), mul-lt q q q2 q2 (omega arith) (omega arith)))
        ]
  ]
]

-- fewer straight steps, more diagonal ones
pub by_diagonal : (a b e f p q : ℕ) → IsAtMostRoot p q → a ≤ e + p → b + q ≤ f → IsBelow a b e f
by_diagonal a b e f p q h k l = elim (cases_lt e a) [
  | inr m ↦ inl (m, omega arith)
  | inl m ↦ elim (cases_lt b f) [
    | inl n ↦ inr (inl (m, n, at_most_along (a - e) (f - b) p q (omega arith) (omega arith) h))
    | inr n ↦
        let none : q ≡ 0 = omega arith in
        let square : p * p ≤ 2 * (0 * 0) = rw none at h in
        absurd (omega (arith, mul-lt 0 0 p p (omega arith) (omega arith)))
  ]
]

-- more straight steps, fewer diagonal ones
pub by_straight : (a b e f p q : ℕ) → IsAtLeastRoot p q → a + p ≤ e → b ≤ f + q → IsBelow a b e f
by_straight a b e f p q h k l = elim (cases_lt f b) [
  | inr m ↦ inl (omega arith, m)
  | inl m ↦ elim (cases_lt a e) [
    | inl n ↦ inr (inr (n, m, at_least_along (e - a) (b - f) p q (omega arith) (omega arith) h))
    | inr n ↦
        let none : p ≡ 0 = omega arith in
        let square : 2 * (q * q) ≤ 0 * 0 = rw none at h in
        absurd (omega (arith, mul-lt 0 0 q q (omega arith) (omega arith)))
  ]
]

below_trans : (a b c d e f : ℕ) → IsBelow a b c d → IsBelow c d e f → IsBelow a b e f
below_trans a b c d e f (inl h) (inl k) = inl (omega arith, omega arith)
below_trans a b c d e f (inl h) (inr (inl k)) = by_diagonal a b e f (c - e) (f - d) k.2 (omega arith) (omega arith)
below_trans a b c d e f (inl h) (inr (inr k)) = by_straight a b e f (e - c) (d - f) k.2 (omega arith) (omega arith)
below_trans a b c d e f (inr (inl h)) (inl k) = by_diagonal a b e f (a - c) (d - b) h.2 (omega arith) (omega arith)
below_trans a b c d e f (inr (inr h)) (inl k) = by_straight a b e f (c - a) (b - d) h.2 (omega arith) (omega arith)
below_trans a b c d e f (inr (inl h)) (inr (inl k)) =
    by_diagonal a b e f (a - c + (c - e)) (d - b + (f - d)) (sum_le (a - c) (d - b) (c - e) (f - d) h.2 k.2) (omega arith) (omega arith)
below_trans a b c d e f (inr (inr h)) (inr (inr k)) =
    by_straight a b e f (c - a + (e - c)) (b - d + (d - f)) (sum_ge (c - a) (b - d) (e - c) (d - f) h.2 k.2) (omega arith) (omega arith)
below_trans a b c d e f (inr (inl h)) (inr (inr k)) = mixed a b e f (a - c) (d - b) (e - c) (d - f) h.2 k.2 (omega arith) (omega arith)
below_trans a b c d e f (inr (inr h)) (inr (inl k)) = mixed a b e f (c - e) (f - d) (c - a) (b - d) k.2 h.2 (omega arith) (omega arith)

below_total : (a b c d : ℕ) → IsBelow a b c d ⊎ IsBelow c d a b
below_total a b c d = elim (cases_lt c a) [
  | inl h ↦ elim (cases_lt b d) [
    | inr k ↦ inr (inl (omega arith, k))
    | inl k ↦ elim (cases_lt ((a - c) * (a - c)) (2 * ((d - b) * (d - b)))) [
      | inl l ↦ inl (inr (inl (h, k, omega arith)))
      | inr l ↦ inr (inr (inr (h, k, l)))
    ]
  ]
  | inr h ↦ elim (cases_lt d b) [
    | inr k ↦ inl (inl (h, k))
    | inl k ↦ elim (cases_lt a c) [
      | inr l ↦ inr (inl (l, omega arith))
      | inl l ↦ elim (cases_lt ((c - a) * (c - a)) (2 * ((b - d) * (b - d)))) [
        | inl m ↦ inr (inr (inl (l, k, omega arith)))
        | inr m ↦ inl (inr (inr (l, k, m)))
      ]
    ]
  ]
]

no_tie : (p q : ℕ) → 0 < q → IsAtMostRoot p q → IsAtLeastRoot p q → ⊥
no_tie p q l h k =
    let none : q ≡ 0 = no_root p q (omega arith) in
    omega arith

below_antisymmetric : (a b c d : ℕ) → IsBelow a b c d → IsBelow c d a b → (a ≡ c) × (b ≡ d)
below_antisymmetric a b c d (inl h) (inl k) = (omega arith, omega arith)
below_antisymmetric a b c d (inl h) (inr (inl k)) = absurd (omega arith)
below_antisymmetric a b c d (inl h) (inr (inr k)) = absurd (omega arith)
below_antisymmetric a b c d (inr (inl h)) (inl k) = absurd (omega arith)
below_antisymmetric a b c d (inr (inr h)) (inl k) = absurd (omega arith)
below_antisymmetric a b c d (inr (inl h)) (inr (inl k)) = absurd (omega arith)
below_antisymmetric a b c d (inr (inr h)) (inr (inr k)) = absurd (omega arith)
below_antisymmetric a b c d (inr (inl h)) (inr (inr k)) = absurd (no_tie (a - c) (d - b) (omega arith) h.2 k.2)
below_antisymmetric a b c d (inr (inr h)) (inr (inl k)) = absurd (no_tie (c - a) (b - d) (omega arith) k.2 h.2)

pub at_most_itself : (x : Cost) → IsAtMost x x
unfolding IsAtMost
at_most_itself x = inl (omega arith, omega arith)

pub at_most_trans : (x y z : Cost) → IsAtMost x y → IsAtMost y z → IsAtMost x z
unfolding IsAtMost
at_most_trans x y z h k = below_trans x.straight x.diagonal y.straight y.diagonal z.straight z.diagonal h k

pub at_most_total : (x y : Cost) → IsAtMost x y ⊎ IsAtMost y x
unfolding IsAtMost
at_most_total x y = below_total x.straight x.diagonal y.straight y.diagonal

pub same_fields : (x y : Cost) → x.straight ≡ y.straight → x.diagonal ≡ y.diagonal → x ≡ y
same_fields x y h k = λ i. record { straight = h i; diagonal = k i }

pub at_most_antisymmetric : (x y : Cost) → IsAtMost x y → IsAtMost y x → x ≡ y
unfolding IsAtMost
at_most_antisymmetric x y h k =
    let same : (x.straight ≡ y.straight) × (x.diagonal ≡ y.diagonal) =
    below_antisymmetric x.straight x.diagonal y.straight y.diagonal h k in
    same_fields x y same.0 same.1
