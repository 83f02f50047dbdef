-- Lists of one value throughout.
use Rattle.std.proofs.Common.{◌≡◌, ℕ, get_or, replicate, inl, inr}
use Rattle.std.proofs.lemmas.Bool.{cases_lt}
use Rattle.std.proofs.lemmas.List.{get_or-replicate, get_or_past, length-replicate}

-- that value is read at each place, and past the end as well where it is the default
pub one_value : {A : Type 0} (n i : ℕ) (a : A) → get_or (replicate n a) i a ≡ a
one_value n i a = elim (cases_lt i n) [
  | inl inside ↦ get_or-replicate n i a a inside
  | inr past ↦ get_or_past (replicate n a) i a (rw (length-replicate n a) past)
]
