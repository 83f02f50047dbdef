-- What squares say of p ≤ q√2: sums, differences, and that √2 is no quotient of two numbers.
use Rattle.std.proofs.Common.{◌≡◌, ℕ, zero, suc, ◌+◌, ◌-◌, ◌*◌, ◌<◌, ◌≤◌, inl, inr, arith}
use Rattle.std.proofs.lemmas.Nat.{mul-le, mul-lt}
use Rattle.std.proofs.lemmas.Bool.{cases_lt}
use Rattle.root_cost.specs.Costs.{IsAtMostRoot, IsAtLeastRoot}

pub le_from_squares : (m n : ℕ) → m * m ≤ n * n → m ≤ n
le_from_squares m n h = elim (cases_lt n m) [ inl l ↦ absurd (omega (arith, mul-lt n n m m l l)) | inr l ↦ l ]

-- u ≤ v√2 and s ≤ t√2 give u · s ≤ 2 · v · t
product_le : (u v s t : ℕ) → IsAtMostRoot u v → IsAtMostRoot s t → u * s ≤ 2 * (v * t)
product_le u v s t h k =
    le_from_squares (u * s) (2 * (v * t)) (omega (arith, mul-le (u * u) (s * s) (2 * (v * v)) (2 * (t * t)) h k))

product_ge : (u v s t : ℕ) → IsAtLeastRoot u v → IsAtLeastRoot s t → 2 * (v * t) ≤ u * s
product_ge u v s t h k =
    le_from_squares (2 * (v * t)) (u * s) (omega (arith, mul-le (2 * (v * v)) (2 * (t * t)) (u * u) (s * s) h k))

pub sum_le : (u v s t : ℕ) → IsAtMostRoot u v → IsAtMostRoot s t → IsAtMostRoot (u + s) (v + t)
sum_le u v s t h k = omega (arith, product_le u v s t h k)

pub sum_ge : (u v s t : ℕ) → IsAtLeastRoot u v → IsAtLeastRoot s t → IsAtLeastRoot (u + s) (v + t)
sum_ge u v s t h k = omega (arith, product_ge u v s t h k)

-- a sum that is at most its root loses a part that is at least its own
pub rest_le : (u v s t : ℕ) → IsAtMostRoot (u + s) (v + t) → IsAtLeastRoot s t → IsAtMostRoot u v
rest_le u v s t h k = elim (cases_lt (2 * (v * v)) (u * u)) [
  | inl l ↦ let g : 2 * (v * v) ≤ u * u = omega arith in absurd (omega (arith, product_ge u v s t g k))
  | inr l ↦ l
]

pub rest_ge : (u v s t : ℕ) → IsAtLeastRoot (u + s) (v + t) → IsAtMostRoot s t → IsAtLeastRoot u v
rest_ge u v s t h k = elim (cases_lt (u * u) (2 * (v * v))) [
  | inl l ↦ let g : u * u ≤ 2 * (v * v) = omega arith in absurd (omega (arith, product_le u v s t g k))
  | inr l ↦ l
]

-- fewer straight steps, more diagonal ones
pub at_most_along : (m n u v : ℕ) → m ≤ u → v ≤ n → IsAtMostRoot u v → IsAtMostRoot m n
at_most_along m n u v h k l = omega (arith, mul-le m m u u h h, mul-le v v n n k k)

-- more straight steps, fewer diagonal ones
pub at_least_along : (m n u v : ℕ) → u ≤ m → n ≤ v → IsAtLeastRoot u v → IsAtLeastRoot m n
at_least_along m n u v h k l = omega (arith, mul-le u u m m h h, mul-le n n v v k k)

descend : (r s : ℕ) → (s + 2 * r) * (s + 2 * r) ≡ 2 * ((r + s) * (r + s)) → s * s ≡ 2 * (r * r)
descend r s e = omega arith

from_parts : (r s p q : ℕ) → p ≡ s + 2 * r → q ≡ r + s → p * p ≡ 2 * (q * q) → s * s ≡ 2 * (r * r)
from_parts r s p q f g e = descend r s (rw (f, g) at e)

-- √2 is irrational: from p = q√2 the descent to 2q - p = (p - q)√2 would go on for ever, unless q is 0
no_root_below : (bound p q : ℕ) → p < bound → p * p ≡ 2 * (q * q) → q ≡ 0
no_root_below zero p q l e = absurd (omega arith)
no_root_below (suc bound) p q l e = elim (cases_lt 0 q) [
  | inr z ↦ omega arith
  | inl some ↦ elim (cases_lt q p) [
    | inr z ↦ absurd (omega (arith, mul-le p p q q z z, mul-lt 0 0 q q some some))
    | inl more ↦
        let below : p ≤ 2 * q = le_from_squares p (2 * q) (omega arith) in
        let smaller : (q - (p - q)) * (q - (p - q)) ≡ 2 * ((p - q) * (p - q)) =
        from_parts (p - q) (q - (p - q)) p q (omega arith) (omega arith) e in
        let none : p - q ≡ 0 = no_root_below bound (q - (p - q)) (p - q) (omega arith) smaller in
        absurd (omega arith)
  ]
]

pub no_root : (p q : ℕ) → p * p ≡ 2 * (q * q) → q ≡ 0
no_root p q e = no_root_below (suc p) p q (omega arith) e
