-- Costs added and taken away: what the order and the keys of sums and of steps are.
use Rattle.std.proofs.Common.{◌≡◌, ◌+◌, ◌<◌, ◌≤◌, ◌↔◌, Bool, true, false, inl, arith, ap}
use Rattle.root_cost.specs.declared.Cost.{Cost}
use Rattle.root_cost.specs.Costs.{IsAtMost, no_cost, plus_step, sum_of}
use Rattle.root_cost.specs.Keys.{key_of, step_key}
use Rattle.root_cost.specs.Laws.{IsLess}
use Rattle.root_cost.proofs.Order.{by_diagonal, same_fields, at_most_antisymmetric, at_most_moved, at_most_trans}

-- ---- equations

pub sum_of-none : (x : Cost) → sum_of x no_cost ≡ x
sum_of-none x = same_fields (sum_of x no_cost) x (omega arith) (omega arith)

pub sum_of-none_first : (x : Cost) → sum_of no_cost x ≡ x
sum_of-none_first x = same_fields (sum_of no_cost x) x (omega arith) (omega arith)

pub sum_of_assoc : (x y z : Cost) → sum_of (sum_of x y) z ≡ sum_of x (sum_of y z)
sum_of_assoc x y z = same_fields (sum_of (sum_of x y) z) (sum_of x (sum_of y z)) (omega arith) (omega arith)

pub sum_of_comm : (x y : Cost) → sum_of x y ≡ sum_of y x
sum_of_comm x y = same_fields (sum_of x y) (sum_of y x) (omega arith) (omega arith)

pub plus_step-sum_of : (x y : Cost) (d : Bool) → plus_step (sum_of x y) d ≡ sum_of x (plus_step y d)
plus_step-sum_of x y d = same_fields (plus_step (sum_of x y) d) (sum_of x (plus_step y d)) (omega arith) (omega arith)

pub plus_step-sum_of_first : (x y : Cost) (d : Bool) → plus_step (sum_of x y) d ≡ sum_of (plus_step x d) y
plus_step-sum_of_first x y d = same_fields (plus_step (sum_of x y) d) (sum_of (plus_step x d) y) (omega arith) (omega arith)

pub plus_step_comm : (x : Cost) (d e : Bool) → plus_step (plus_step x d) e ≡ plus_step (plus_step x e) d
plus_step_comm x d e = same_fields (plus_step (plus_step x d) e) (plus_step (plus_step x e) d) (omega arith) (omega arith)

-- ---- the same on both sides

pub at_most_sum : (x y z : Cost) → IsAtMost x y → IsAtMost (sum_of x z) (sum_of y z)
at_most_sum x y z h = at_most_moved x y (sum_of x z) (sum_of y z) (omega arith) (omega arith) h

pub at_most_sum_cancel : (x y z : Cost) → IsAtMost (sum_of x z) (sum_of y z) → IsAtMost x y
at_most_sum_cancel x y z h = at_most_moved (sum_of x z) (sum_of y z) x y (omega arith) (omega arith) h

pub at_most_sum_first : (x y z : Cost) → IsAtMost x y → IsAtMost (sum_of z x) (sum_of z y)
at_most_sum_first x y z h = at_most_moved x y (sum_of z x) (sum_of z y) (omega arith) (omega arith) h

pub at_most_sum_first_cancel : (x y z : Cost) → IsAtMost (sum_of z x) (sum_of z y) → IsAtMost x y
at_most_sum_first_cancel x y z h = at_most_moved (sum_of z x) (sum_of z y) x y (omega arith) (omega arith) h

pub at_most_sums : (x y u v : Cost) → IsAtMost x u → IsAtMost y v → IsAtMost (sum_of x y) (sum_of u v)
at_most_sums x y u v h k = at_most_trans (sum_of x y) (sum_of u y) (sum_of u v) (at_most_sum x u y h) (at_most_sum_first y v u k)

pub at_most_step : (x y : Cost) (d : Bool) → IsAtMost x y → IsAtMost (plus_step x d) (plus_step y d)
at_most_step x y d h = at_most_moved x y (plus_step x d) (plus_step y d) (omega arith) (omega arith) h

pub at_most_step_cancel : (x y : Cost) (d : Bool) → IsAtMost (plus_step x d) (plus_step y d) → IsAtMost x y
at_most_step_cancel x y d h = at_most_moved (plus_step x d) (plus_step y d) x y (omega arith) (omega arith) h

pub at_most_step_iff : (x y : Cost) (d : Bool) → IsAtMost x y ↔ IsAtMost (plus_step x d) (plus_step y d)
at_most_step_iff x y d = (at_most_step x y d, at_most_step_cancel x y d)

-- ---- a step costs something

pub plus_step-counts : (x : Cost) (d : Bool) → (plus_step x d).straight + (plus_step x d).diagonal ≡ x.straight + x.diagonal + 1
plus_step-counts x true = omega arith
plus_step-counts x false = omega arith

pub at_most_more : (x y : Cost) → x.straight ≤ y.straight → x.diagonal ≤ y.diagonal → IsAtMost x y
unfolding IsAtMost
at_most_more x y h k = inl (h, k)

pub none_at_most : (x : Cost) → IsAtMost no_cost x
none_at_most x = at_most_more no_cost x (omega arith) (omega arith)

pub at_most_one_step_more : (x : Cost) (d : Bool) → IsAtMost x (plus_step x d)
at_most_one_step_more x d = at_most_more x (plus_step x d) (omega arith) (omega arith)

pub at_most_sum_of : (x y : Cost) → IsAtMost x (sum_of x y)
at_most_sum_of x y = at_most_more x (sum_of x y) (omega arith) (omega arith)

pub at_most_sum_of_second : (x y : Cost) → IsAtMost y (sum_of x y)
at_most_sum_of_second x y = at_most_more y (sum_of x y) (omega arith) (omega arith)

steps_differ : (x : Cost) (d : Bool) → x ≡ plus_step x d → ⊥
steps_differ x true e = let more : x.diagonal ≡ x.diagonal + 1 = ap (λ c. c.diagonal) e in omega arith
steps_differ x false e = let more : x.straight ≡ x.straight + 1 = ap (λ c. c.straight) e in omega arith

pub step_not_at_most : (x : Cost) (d : Bool) → IsAtMost (plus_step x d) x → ⊥
step_not_at_most x d h = steps_differ x d (at_most_antisymmetric x (plus_step x d) (at_most_one_step_more x d) h)

pub less_one_step_more : (x : Cost) (d : Bool) → IsLess x (plus_step x d)
less_one_step_more x d = (at_most_one_step_more x d, step_not_at_most x d)

pub some_not_at_most_none : (x : Cost) → 0 < x.straight + x.diagonal → IsAtMost x no_cost → ⊥
some_not_at_most_none x l h =
    let same : x ≡ no_cost = at_most_antisymmetric x no_cost h (none_at_most x) in
    let straight : x.straight ≡ 0 = ap (λ c. c.straight) same in
    let diagonal : x.diagonal ≡ 0 = ap (λ c. c.diagonal) same in
    omega arith

pub step_not_at_most_none : (x : Cost) (d : Bool) → IsAtMost (plus_step x d) no_cost → ⊥
step_not_at_most_none x true h = some_not_at_most_none (plus_step x true) (omega arith) h
step_not_at_most_none x false h = some_not_at_most_none (plus_step x false) (omega arith) h

-- 1 ≤ √2
pub straight_at_most_diagonal : (x : Cost) → IsAtMost (plus_step x false) (plus_step x true)
unfolding IsAtMost
straight_at_most_diagonal x = by_diagonal (x.straight + 1) (x.diagonal + 0) (x.straight + 0) (x.diagonal + 1) 1 1 (omega arith) (omega arith) (omega arith)

-- a step of either kind costs at least one straight step
pub straight_least_step : (x : Cost) (d : Bool) → IsAtMost (plus_step x false) (plus_step x d)
straight_least_step x true = straight_at_most_diagonal x
straight_least_step x false = at_most_more (plus_step x false) (plus_step x false) (omega arith) (omega arith)

-- ---- keys

pub key_of-plus_step : (x : Cost) (d : Bool) → key_of (plus_step x d) ≡ key_of x + step_key d
key_of-plus_step x true = omega arith
key_of-plus_step x false = omega arith

pub key_of-no_cost : key_of no_cost ≡ 0
key_of-no_cost = omega arith

pub key_of-sum_of : (x y : Cost) → key_of (sum_of x y) ≡ key_of x + key_of y
key_of-sum_of x y = omega arith
