-- The least open cell in a plain scan of the places in lists that go row by row.
use Rattle.std.specs.Prelude.{◌≡◌, ℕ, ◌<◌, ◌≤◌, Bool, false, List, slice_index_or}
use Rattle.root_cost.specs.declared.TheConstants.{NO_KEY}

-- the place is one of the first `cells`, has a key and is not settled, and no other unsettled one has a lower key
pub record IsLeastOpen (keys : List ℕ) (done : List Bool) (cells place : ℕ) : Type 0 where
  pub inside : place < cells
  pub found : slice_index_or keys place NO_KEY < NO_KEY
  pub open_yet : slice_index_or done place false ≡ false
  pub least : (other : ℕ) → other < cells → slice_index_or done other false ≡ false
      → slice_index_or keys place NO_KEY ≤ slice_index_or keys other NO_KEY

-- each of the first `cells` places is settled or has no key
abbrev pub AreNoneOpen : List ℕ → List Bool → ℕ → Type 0
AreNoneOpen keys done cells = (place : ℕ) → place < cells → slice_index_or done place false ≡ false
    → NO_KEY ≤ slice_index_or keys place NO_KEY

-- no place is settled
abbrev pub AreNoneDone : List Bool → Type 0
AreNoneDone done = (place : ℕ) → slice_index_or done place false ≡ false
