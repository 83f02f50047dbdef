-- The laws of the cost order, which the functions `order_is_lawful` and `keys_order` state.
use Rattle.std.specs.Prelude.{◌≡◌, ℕ, ◌*◌, ◌<◌, ◌≤◌, ◌⊎◌, ◌↔◌, Bool, true}
use Rattle.std.specs.Ordering.{MatchOrdering}
use Rattle.root_cost.specs.declared.Cost.{Cost}
use Rattle.root_cost.specs.Compared.{cost_cmp}
use Rattle.root_cost.specs.declared.TheConstants.Cost.{ZERO}
use Rattle.root_cost.specs.declared.TheConstants.{KEYED_DIAGONALS}
use Rattle.root_cost.specs.Costs.{IsAtMost, sum_of, whole}
use Rattle.root_cost.specs.Keys.{key_of}

-- the first cost is at most the second, and the second is not at most the first
abbrev pub IsLess : Cost → Cost → Type 0
IsLess x y = IsAtMost x y × (IsAtMost y x → ⊥)

-- n diagonal steps
abbrev pub diagonals : ℕ → Cost
diagonals n = record { straight = 0; diagonal = n }

-- a test of two costs that is total and antisymmetric, that adding the same cost to both sides does not change, by
-- which no cost is below ZERO, and by which p straight steps are at most q diagonal ones exactly when p² ≤ 2q²
pub record TestsCosts (test : Cost → Cost → Bool) : Type 0 where
  pub total : (x y : Cost) → (test x y ≡ true) ⊎ (test y x ≡ true)
  pub antisymmetric : (x y : Cost) → test x y ≡ true → test y x ≡ true → x ≡ y
  pub least : (x : Cost) → test ZERO x ≡ true
  pub added : (x y z : Cost) → (test x y ≡ true) ↔ (test (sum_of x z) (sum_of y z) ≡ true)
  pub by_squares : (p q : ℕ) → (test (whole p) (diagonals q) ≡ true) ↔ (p * p ≤ 2 * (q * q))

-- `IsAtMost` is a total order in which costs are equal only if they are the same pair, `cmp` follows it, adding the
-- same cost to both sides changes nothing, no cost is below ZERO, and p straight steps are at most q diagonal ones
-- exactly when p² ≤ 2q². Any test of costs with all these properties agrees with `IsAtMost`.
pub record OrderIsLawful : Type 0 where
  pub total : (x y : Cost) → IsAtMost x y ⊎ IsAtMost y x
  pub transitive : (x y z : Cost) → IsAtMost x y → IsAtMost y z → IsAtMost x z
  pub antisymmetric : (x y : Cost) → IsAtMost x y → IsAtMost y x → x ≡ y
  pub compared : (x y : Cost) → MatchOrdering (cost_cmp x y) (IsLess x y) (x ≡ y) (IsLess y x)
  pub least : (x : Cost) → IsAtMost ZERO x
  pub added : (x y z : Cost) → IsAtMost x y ↔ IsAtMost (sum_of x z) (sum_of y z)
  pub by_squares : (p q : ℕ) → IsAtMost (whole p) (diagonals q) ↔ (p * p ≤ 2 * (q * q))
  pub only : (test : Cost → Cost → Bool) → TestsCosts test → (x y : Cost) → (test x y ≡ true) ↔ IsAtMost x y

-- below KEYED_DIAGONALS diagonal steps, keys order as costs do and different costs have different keys
pub record KeysOrderCosts : Type 0 where
  pub same_order : (x y : Cost) → x.diagonal < KEYED_DIAGONALS → y.diagonal < KEYED_DIAGONALS → IsAtMost x y ↔ (key_of x ≤ key_of y)
  pub one_key_each : (x y : Cost) → x.diagonal < KEYED_DIAGONALS → y.diagonal < KEYED_DIAGONALS → key_of x ≡ key_of y → x ≡ y
