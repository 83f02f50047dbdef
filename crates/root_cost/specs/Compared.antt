-- What `cmp` returns for two costs: the tests of the cost order, one by one.
use Rattle.std.specs.Prelude.{ℕ, ◌-◌, ◌*◌, Bool, ◌&&◌, ◌||◌, nat_lt, nat_le, ◌==◌, if◌then◌else◌}
use Rattle.std.specs.declared.cmp.Ordering.{Ordering}
use Rattle.std.specs.declared.cmp.Ordering.TheVariants.{Less, Equal, Greater}
use Rattle.root_cost.specs.declared.Cost.{Cost}

-- is a + b√2 ≤ c + d√2?
abbrev pub is_below : ℕ → ℕ → ℕ → ℕ → Bool
is_below a b c d =
    (nat_le a c && nat_le b d)
    || ((nat_lt c a && (nat_lt b d && nat_le ((a - c) * (a - c)) (2 * ((d - b) * (d - b)))))
    || (nat_lt a c && (nat_lt d b && nat_le (2 * ((b - d) * (b - d))) ((c - a) * (c - a)))))

-- are both fields equal?
abbrev pub same_cost : Cost → Cost → Bool
same_cost x y = (x.straight == y.straight) && (x.diagonal == y.diagonal)

-- equal only if they are the same pair, and otherwise by the cost order
unfoldable pub cost_cmp : Cost → Cost → Ordering
cost_cmp x y = if same_cost x y then Equal else (if is_below x.straight x.diagonal y.straight y.diagonal then Less else Greater)
