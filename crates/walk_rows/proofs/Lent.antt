-- A list that was lent comes back with its length.
use Rattle.std.proofs.Common.{◌≡◌, ℕ, List, ◌++◌, length, take, drop, arith}
use Rattle.std.proofs.lemmas.List.{length-append, length-drop, length-take-le}

pub lent_whole : {A : Type 0} (n : ℕ) (new old : List A) → length old ≡ n → length (take n (new ++ drop (length new) old)) ≡ n
lent_whole n new old size = length-take-le n (new ++ drop (length new) old) (omega (arith, length-append new (drop (length new) old), length-drop (length new) old))
