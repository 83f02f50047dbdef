-- The floor of a cost's length in millionths, by the whole square root of twice the diagonal part's square.
use Rattle.std.proofs.Common.{◌≡◌, ℕ, ◌+◌, ◌-◌, ◌*◌, ◌<◌, ◌≤◌, inl, inr, arith}
use Rattle.root_cost.specs.declared.Cost.{Cost}
use Rattle.root_cost.specs.Costs.{IsAtMost, IsAtMostRoot, IsBelow, IsMicro, million_of, whole}
use Rattle.root_cost.proofs.Squares.{at_most_along}
use Rattle.root_cost.proofs.Order.{by_diagonal}

module _ (x : Cost) (root : ℕ) (least : root * root ≤ 2 * (1000000 * x.diagonal * (1000000 * x.diagonal))) where
  root_reached : IsAtMost (whole (1000000 * x.straight + root)) (million_of x)
  unfolding IsAtMost
  root_reached = by_diagonal (1000000 * x.straight + root) 0 (1000000 * x.straight) (1000000 * x.diagonal) root (1000000 * x.diagonal) least (omega arith) (omega arith)

  module _ (most : 2 * (1000000 * x.diagonal * (1000000 * x.diagonal)) < (root + 1) * (root + 1)) where
    root_passed : IsBelow (1000000 * x.straight + root + 1) 0 (1000000 * x.straight) (1000000 * x.diagonal) → ⊥
    root_passed (inl h) = omega arith
    root_passed (inr (inl h)) =
        let above = 1000000 * x.straight + root + 1 - 1000000 * x.straight in
        let over : IsAtMostRoot (root + 1) (1000000 * x.diagonal) =
        at_most_along (root + 1) (1000000 * x.diagonal) above (1000000 * x.diagonal - 0) (omega arith) (omega arith) h.2 in
        omega arith
    root_passed (inr (inr h)) = omega arith

    root_not_passed : IsAtMost (whole (1000000 * x.straight + root + 1)) (million_of x) → ⊥
    unfolding IsAtMost
    root_not_passed h = root_passed h

    pub IsMicro-root : (straight : ℕ) → straight ≡ x.straight → IsMicro x (1000000 * straight + root)
    IsMicro-root straight e = rw e (record { reached = root_reached; not_passed = root_not_passed })
