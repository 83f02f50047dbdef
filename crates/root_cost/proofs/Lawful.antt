-- The cost order has its laws.
use Rattle.std.proofs.Common.{◌≡◌, ◌↔◌, ℕ, ◌-◌, Bool, true, inl, inr, ap, subst, arith}
use Rattle.root_cost.specs.declared.Cost.{Cost}
use Rattle.root_cost.specs.declared.TheConstants.Cost.{ZERO}
use Rattle.std.proofs.lemmas.Nat.{mul-le}
use Rattle.root_cost.specs.Costs.{IsAtMostRoot, IsBelow, IsAtMost, pair_of, sum_of, whole}
use Rattle.root_cost.specs.Laws.{OrderIsLawful, TestsCosts, diagonals}
use Rattle.root_cost.proofs.Squares.{at_most_along}
use Rattle.root_cost.proofs.Order.{at_most_total, at_most_trans, at_most_antisymmetric, at_most_same, at_most_moved, by_diagonal, compared_as, same_fields}
use Rattle.root_cost.proofs.Adding.{at_most_sum, at_most_sum_cancel, none_at_most}

root_if_below : (p q : ℕ) → IsBelow p 0 0 q → IsAtMostRoot p q
root_if_below p q (inl h) = omega (arith, mul-le p p 0 0 (omega arith) (omega arith))
root_if_below p q (inr (inl h)) = at_most_along p q (p - 0) (q - 0) (omega arith) (omega arith) h.2
root_if_below p q (inr (inr h)) = absurd (omega arith)

root_if_at_most : (p q : ℕ) → IsAtMost (whole p) (diagonals q) → IsAtMostRoot p q
unfolding IsAtMost
root_if_at_most p q h = root_if_below p q h

at_most_if_root : (p q : ℕ) → IsAtMostRoot p q → IsAtMost (whole p) (diagonals q)
unfolding IsAtMost
at_most_if_root p q h = by_diagonal p 0 0 q p q h (omega arith) (omega arith)

-- a test with the laws of the order answers as the order does
module _ (test : Cost → Cost → Bool) (laws : TestsCosts test) where
  -- what holds of two costs holds of two that differ by as much
  moved : (x y z u v : Cost) → sum_of x z ≡ u → sum_of y z ≡ v → test x y ≡ true → test u v ≡ true
  moved x y z u v left right h =
      subst (λ c. test c v ≡ true) left (subst (λ c. test (sum_of x z) c ≡ true) right ((laws.added x y z).0 h))

  passes_below : (x y : Cost) → IsBelow x.straight x.diagonal y.straight y.diagonal → IsAtMost x y → test x y ≡ true
  passes_below x y (inl h) most =
      let left = h.0 in
      let right = h.1 in
      let rest : Cost = pair_of (y.straight - x.straight) (y.diagonal - x.diagonal) in
      moved ZERO rest x x y
      (same_fields (sum_of ZERO x) x (omega arith) (omega arith))
      (same_fields (sum_of rest x) y (omega arith) (omega arith)) (laws.least rest)
  passes_below x y (inr (inl h)) most =
      let left = h.0 in
      let right = h.1 in
      let p : ℕ = x.straight - y.straight in
      let q : ℕ = y.diagonal - x.diagonal in
      let both : Cost = pair_of y.straight x.diagonal in
      moved (whole p) (diagonals q) both x y
      (same_fields (sum_of (whole p) both) x (omega arith) (omega arith))
      (same_fields (sum_of (diagonals q) both) y (omega arith) (omega arith)) ((laws.by_squares p q).1 h.2)
  passes_below x y (inr (inr h)) most =
      let left = h.0 in
      let right = h.1 in
      let p : ℕ = y.straight - x.straight in
      let q : ℕ = x.diagonal - y.diagonal in
      let both : Cost = pair_of x.straight y.diagonal in
      elim (laws.total (diagonals q) (whole p)) [
        | inl passes ↦
            moved (diagonals q) (whole p) both x y
            (same_fields (sum_of (diagonals q) both) x (omega arith) (omega arith))
            (same_fields (sum_of (whole p) both) y (omega arith) (omega arith)) passes
        | inr other ↦
            let back : IsAtMost y x =
            at_most_moved (whole p) (diagonals q) y x (omega arith) (omega arith)
            (at_most_if_root p q ((laws.by_squares p q).0 other)) in
            let same : x.straight ≡ y.straight = ap (λ c. c.straight) (at_most_antisymmetric x y most back) in
            absurd (omega arith)
      ]

  passes : (x y : Cost) → IsAtMost x y → test x y ≡ true
  unfolding IsAtMost
  passes x y h = passes_below x y h h

  is_at_most : (x y : Cost) → test x y ≡ true → IsAtMost x y
  is_at_most x y h =
      elim (at_most_total x y) [
        | inl most ↦ most
        | inr other ↦ at_most_same x y (laws.antisymmetric x y h (passes y x other))
      ]

  pub answers : (x y : Cost) → (test x y ≡ true) ↔ IsAtMost x y
  answers x y = (is_at_most x y, passes x y)

pub lawful : OrderIsLawful
lawful = record {
  total = at_most_total;
  transitive = at_most_trans;
  antisymmetric = at_most_antisymmetric;
  compared = compared_as;
  least = none_at_most;
  added = λ x y z. (at_most_sum x y z, at_most_sum_cancel x y z);
  by_squares = λ p q. (root_if_at_most p q, at_most_if_root p q);
  only = answers;
}
