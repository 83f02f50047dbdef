-- A number in place of a cost: DIAGONAL_KEY / STRAIGHT_KEY is just below √2, since 47321² = 2 · 33461² - 1. So as long
-- as there are fewer than 33461 diagonal steps, keys order as costs do and are equal only for equal costs. As
-- 47321 · 19601 = 27720 · 33461 + 1, a key then gives back its diagonal steps.
use Rattle.std.specs.Prelude.{◌≡◌, ℕ, ◌+◌, ◌-◌, ◌*◌, ◌/◌, ◌%◌, Bool, Option, Some, None, if◌then◌else◌, nat_eq}
use Rattle.root_cost.specs.declared.Cost.{Cost}
use Rattle.root_cost.specs.declared.TheConstants.{STRAIGHT_KEY, DIAGONAL_KEY, NO_KEY, READING_FACTOR}

-- the key of a cost: (1, 1) has 33461 + 47321 = 80782
abbrev pub key_of : Cost → ℕ
key_of cost = STRAIGHT_KEY * cost.straight + DIAGONAL_KEY * cost.diagonal

-- the key of one step
abbrev pub step_key : Bool → ℕ
step_key diagonal_step = if diagonal_step then DIAGONAL_KEY else STRAIGHT_KEY

-- the diagonal steps of the cost with that key
unfoldable pub diagonal_of : ℕ → ℕ
diagonal_of key = (key * READING_FACTOR) % STRAIGHT_KEY

-- the cost with that key
unfoldable pub cost_of_key : ℕ → Cost
cost_of_key key = record { straight = (key - DIAGONAL_KEY * diagonal_of key) / STRAIGHT_KEY; diagonal = diagonal_of key }

-- the cost that a key stands for
unfoldable pub cost_if_key : ℕ → Option Cost
cost_if_key key = if nat_eq key NO_KEY then None else Some (cost_of_key key)

-- the key gives back the cost that it was made from
unfoldable pub GivesBack : ℕ → Option Cost → Type 0
GivesBack key found = (cost : Cost) → key_of cost ≡ key → found ≡ Some cost
