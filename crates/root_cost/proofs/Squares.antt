-- What squares say of p ≤ q√2, and that √2 is irrational.
pub use Rattle.root_cost.specs.Lawful.Squares.{le_from_squares, sum_le, sum_ge, rest_le, rest_ge, at_most_along, at_least_along, no_root}
