-- Plain searches from one source after the other.
use Rattle.std.specs.Prelude.{ℕ, List}

-- a plain search as its callers see it: how many cells a map may have, and the first sets that were found last
pub record PlainlyFound : Type 0 where
  pub room : ℕ
  pub sets : List ℕ
