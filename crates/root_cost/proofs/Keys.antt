-- Keys order as costs do: 47321² = 2 · 33461² - 1, so 47321 / 33461 is just below √2, and near enough while the
-- diagonal steps differ by less than 33461.
use Rattle.std.proofs.Common.{◌≡◌, ℕ, ◌+◌, ◌-◌, ◌*◌, ◌/◌, ◌%◌, ◌<◌, ◌≤◌, Some, None, inl, inr, refl, sym, ap, ◌∙◌, arith}
use Rattle.std.proofs.lemmas.Nat.{mul-le, mul-lt, mod-mul-add, div-mul-add}
use Rattle.std.proofs.lemmas.Bool.{cases_lt, ne_eqb}
use Rattle.root_cost.specs.declared.Cost.{Cost}
use Rattle.root_cost.specs.Costs.{IsAtMostRoot, IsAtLeastRoot, IsBelow, IsAtMost}
use Rattle.root_cost.specs.Keys.{key_of, diagonal_of, cost_of_key, cost_if_key, GivesBack}
use Rattle.root_cost.specs.declared.TheConstants.{NO_KEY, GREATEST_KEY}
use Rattle.root_cost.specs.Laws.{KeysOrderCosts}
use Rattle.root_cost.proofs.Order.{at_most_antisymmetric, same_fields}

-- 33461 p ≤ 47321 q puts p below q√2
root_if_key : (p q : ℕ) → 33461 * p ≤ 47321 * q → IsAtMostRoot p q
root_if_key p q h = omega (arith, mul-le (33461 * p) (33461 * p) (47321 * q) (47321 * q) h h)

-- and 47321 q < 33461 p puts it above, for a short q
above_if_key : (p q : ℕ) → q < 94643 → 47321 * q < 33461 * p → 2 * (q * q) < p * p
above_if_key p q l h =
    omega (arith, mul-le (47321 * q + 1) (47321 * q + 1) (33461 * p) (33461 * p) (omega arith) (omega arith), mul-le q q q 94642 (omega arith) (omega arith))

-- the two sides are equal for no short q but 0
no_tied_key : (p q : ℕ) → 0 < q → q < 33461 → 33461 * p ≡ 47321 * q → ⊥
no_tied_key p q l m e = omega arith

key_if_root : (p q : ℕ) → q < 33461 → IsAtMostRoot p q → 33461 * p ≤ 47321 * q
key_if_root p q l h = elim (cases_lt (47321 * q) (33461 * p)) [ inl m ↦ absurd (omega (arith, above_if_key p q (omega arith) m)) | inr m ↦ m ]

least_if_key : (p q : ℕ) → 0 < q → q < 33461 → 47321 * q ≤ 33461 * p → IsAtLeastRoot p q
least_if_key p q l m h = elim (cases_lt (47321 * q) (33461 * p)) [
  | inl k ↦ omega (arith, above_if_key p q (omega arith) k)
  | inr k ↦ absurd (no_tied_key p q l m (omega arith))
]

key_if_least : (p q : ℕ) → 0 < q → IsAtLeastRoot p q → 47321 * q ≤ 33461 * p
key_if_least p q l h = elim (cases_lt (33461 * p) (47321 * q)) [
  | inl m ↦ absurd (omega (arith, mul-le (33461 * p) (33461 * p) (47321 * q) (47321 * q) (omega arith) (omega arith), mul-lt 0 0 q q l l))
  | inr m ↦ m
]

key_if_below : (a b c d : ℕ) → b < 33461 → d < 33461 → IsBelow a b c d → 33461 * a + 47321 * b ≤ 33461 * c + 47321 * d
key_if_below a b c d l m (inl h) = omega arith
key_if_below a b c d l m (inr (inl h)) = omega (arith, key_if_root (a - c) (d - b) (omega arith) h.2)
key_if_below a b c d l m (inr (inr h)) = omega (arith, key_if_least (c - a) (b - d) (omega arith) h.2)

below_if_key : (a b c d : ℕ) → b < 33461 → d < 33461 → 33461 * a + 47321 * b ≤ 33461 * c + 47321 * d → IsBelow a b c d
below_if_key a b c d l m h = elim (cases_lt c a) [
  | inl j ↦ elim (cases_lt b d) [
    | inl k ↦ inr (inl (j, k, root_if_key (a - c) (d - b) (omega arith)))
    | inr k ↦ absurd (omega arith)
  ]
  | inr j ↦ elim (cases_lt d b) [
    | inr k ↦ inl (j, k)
    | inl k ↦ elim (cases_lt a c) [
      | inl i ↦ inr (inr (i, k, least_if_key (c - a) (b - d) (omega arith) (omega arith) (omega arith)))
      | inr i ↦ absurd (omega arith)
    ]
  ]
]

pub key_if_at_most : (x y : Cost) → x.diagonal < 33461 → y.diagonal < 33461 → IsAtMost x y → key_of x ≤ key_of y
unfolding IsAtMost
key_if_at_most x y h k l = key_if_below x.straight x.diagonal y.straight y.diagonal h k l

pub at_most_if_key : (x y : Cost) → x.diagonal < 33461 → y.diagonal < 33461 → key_of x ≤ key_of y → IsAtMost x y
unfolding IsAtMost
at_most_if_key x y h k l = below_if_key x.straight x.diagonal y.straight y.diagonal h k l

pub same_if_key : (x y : Cost) → x.diagonal < 33461 → y.diagonal < 33461 → key_of x ≡ key_of y → x ≡ y
same_if_key x y h k e = at_most_antisymmetric x y (at_most_if_key x y h k (omega arith)) (at_most_if_key y x k h (omega arith))

pub keys_in_order : KeysOrderCosts
keys_in_order = record {
  same_order = λ x y h k. (key_if_at_most x y h k, at_most_if_key x y h k);
  one_key_each = same_if_key;
}

-- ---- a key gives its cost back

diagonal_back : (a b : ℕ) → b < 33461 → diagonal_of (33461 * a + 47321 * b) ≡ b
unfolding diagonal_of
diagonal_back a b h =
    let e : (33461 * a + 47321 * b) * 19601 ≡ (19601 * a + 27720 * b) * 33461 + b = omega arith in
    ap (λ n. n % 33461) e ∙ mod-mul-add (19601 * a + 27720 * b) 33461 b h

straight_back : (a b : ℕ) → (33461 * a + 47321 * b - 47321 * b) / 33461 ≡ a
straight_back a b =
    let e : 33461 * a + 47321 * b - 47321 * b ≡ a * 33461 + 0 = omega arith in
    ap (λ n. n / 33461) e ∙ div-mul-add a 33461 0 (omega arith)

pub cost_back : (cost : Cost) → cost.diagonal < 33461 → cost_of_key (key_of cost) ≡ cost
unfolding cost_of_key
cost_back cost h =
    let d : diagonal_of (key_of cost) ≡ cost.diagonal = diagonal_back cost.straight cost.diagonal h in
    same_fields (record { straight = (key_of cost - 47321 * diagonal_of (key_of cost)) / 33461; diagonal = diagonal_of (key_of cost) }) cost
    (ap (λ n. (key_of cost - 47321 * n) / 33461) d ∙ straight_back cost.straight cost.diagonal) d

pub cost_if_none : cost_if_key NO_KEY ≡ None
unfolding cost_if_key
cost_if_none = refl

pub cost_if_some : (key : ℕ) → key < NO_KEY → cost_if_key key ≡ Some (cost_of_key key)
unfolding cost_if_key
cost_if_some key h = let ne : key ≡ NO_KEY → ⊥ = λ e. omega arith in rw (ne_eqb key NO_KEY ne) refl

-- where a key is that of a cost with few diagonal steps
pub cost_if_of : (key : ℕ) (cost : Cost) → key_of cost ≡ key → cost.diagonal < 33461 → key < NO_KEY → cost_if_key key ≡ Some cost
cost_if_of key cost e h k = cost_if_some key k ∙ ap (λ n. Some (cost_of_key n)) (sym e) ∙ ap Some (cost_back cost h)

-- no cost with more diagonal steps has such a key
pub few_diagonals : (cost : Cost) → key_of cost ≤ GREATEST_KEY → cost.diagonal < 33461
few_diagonals cost h = omega arith

pub given_back : (key : ℕ) → key ≤ GREATEST_KEY → GivesBack key (cost_if_key key)
unfolding GivesBack
given_back key h = λ cost e. cost_if_of key cost e (few_diagonals cost (omega arith)) (omega arith)
