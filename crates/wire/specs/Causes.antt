-- When a fault count rose. A count is a `u64` that stops at the greatest number of its type.
use Rattle.std.specs.Prelude.{ℕ, ◌+◌, ◌-◌, ◌^◌, ◌≤◌, List, min}

-- one more than this count, or the count itself if it is the greatest
abbrev pub one_more : ℕ → ℕ
one_more count = min (count + 1) (2 ^ 64 - 1)

-- the count rose: it is greater than before, or is the greatest
abbrev pub Rose : ℕ → ℕ → Type 0
Rose before now = one_more before ≤ now

-- none of the counts, one for each name, has fallen
abbrev pub NoneFell : (List ℕ → ℕ) → (List ℕ → ℕ) → Type 0
NoneFell before now = (name : List ℕ) → before name ≤ now name
