-- The cost order: a cost (a, b) stands for a + b√2, and two costs are compared by signs and squares alone.
-- (MovingAI scenario format page: straight steps cost 1, diagonal steps √2.)
use Rattle.std.specs.Prelude.{ℕ, ◌+◌, ◌-◌, ◌*◌, ◌<◌, ◌≤◌, ◌⊎◌, Bool, if◌then◌else◌}
use Rattle.root_cost.specs.declared.Cost.{Cost}
use Rattle.root_cost.specs.declared.lengths.TheConstants.{NANO, TOLERANCE}
pub use Rattle.root_cost.specs.Keys.{key_of}

-- p ≤ q√2
abbrev pub IsAtMostRoot : ℕ → ℕ → Type 0
IsAtMostRoot p q = p * p ≤ 2 * (q * q)

-- q√2 ≤ p
abbrev pub IsAtLeastRoot : ℕ → ℕ → Type 0
IsAtLeastRoot p q = 2 * (q * q) ≤ p * p

-- a + b√2 ≤ c + d√2: neither a nor b is greater; or only a is, and a - c ≤ (d - b)√2; or only b is, and c - a ≥
-- (b - d)√2
abbrev pub IsBelow : ℕ → ℕ → ℕ → ℕ → Type 0
IsBelow a b c d =
    ((a ≤ c) × (b ≤ d)) ⊎ (((c < a) × (b < d) × IsAtMostRoot (a - c) (d - b)) ⊎ ((a < c) × (d < b) × IsAtLeastRoot (c - a) (b - d)))

-- the first cost is at most the second
unfoldable pub IsAtMost : Cost → Cost → Type 0
IsAtMost x y = IsBelow x.straight x.diagonal y.straight y.diagonal

-- the cost of standing still
abbrev pub no_cost : Cost
no_cost = record { straight = 0; diagonal = 0 }

-- a cost with one more step
abbrev pub plus_step : Cost → Bool → Cost
plus_step cost diagonal_step =
    record { straight = cost.straight + (if diagonal_step then 0 else 1); diagonal = cost.diagonal + (if diagonal_step then 1 else 0) }

-- the sum of two costs
abbrev pub sum_of : Cost → Cost → Cost
sum_of x y = record { straight = x.straight + y.straight; diagonal = x.diagonal + y.diagonal }

-- a million times a cost
abbrev pub million_of : Cost → Cost
million_of cost = record { straight = 1000000 * cost.straight; diagonal = 1000000 * cost.diagonal }

-- a length of n whole steps
abbrev pub whole : ℕ → Cost
whole n = record { straight = n; diagonal = 0 }

-- n is the floor of (a + b√2) · 1,000,000: it is at most that length, and n + 1 is not
pub record IsMicro (cost : Cost) (n : ℕ) : Type 0 where
  pub reached : IsAtMost (whole n) (million_of cost)
  pub not_passed : IsAtMost (whole (n + 1)) (million_of cost) → ⊥

-- these numbers of straight and of diagonal steps
abbrev pub pair_of : ℕ → ℕ → Cost
pair_of straight diagonal = record { straight = straight; diagonal = diagonal }

-- a billion times a cost
abbrev pub billion_of : Cost → Cost
billion_of cost = pair_of (NANO * cost.straight) (NANO * cost.diagonal)

-- a + b√2 and n billionths differ by at most a hundredth, which is TOLERANCE billionths, both ends included:
-- (0, 1) is near 1.424213562 and not near 1.424213563
pub record IsNear (cost : Cost) (n : ℕ) : Type 0 where
  pub not_above : IsAtMost (whole n) (sum_of (billion_of cost) (whole TOLERANCE))
  pub not_below : IsAtMost (billion_of cost) (whole (n + TOLERANCE))
