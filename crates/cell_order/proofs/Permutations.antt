-- Two lists without repeats that have the same cells are one in another order.
use Rattle.std.proofs.Common.{◌≡◌, ◌≢◌, ℕ, suc, ◌+◌, ◌<◌, ◌⊎◌, List, [], ◌∷◌, length, get_or, refl, sym, ◌∙◌, subst, inl, inr, arith}
use Rattle.std.specs.List.{AllPairs, Contains, remove}
use Rattle.std.specs.List.Sorted.{IsPermutation}
use Rattle.std.proofs.lemmas.Bool.{cases_lt}
use Rattle.std.proofs.lemmas.List.{get_or_default}
use Rattle.std.proofs.lemmas.List.Edits.{length-remove, get_or-remove_below, get_or-remove_above}
use Rattle.std.proofs.lemmas.List.Quantifiers.{all_pairs_remove}
use Rattle.std.proofs.lemmas.List.Sorted.{IsPermutation-refl, IsPermutation-sym, IsPermutation-cons, IsPermutation-trans, IsPermutation-remove, Contains-permutation}
pub use Rattle.moves.proofs.RowMajor.{contains_cases}
use Rattle.moves.proofs.RowMajor.{contains_later}

-- no element stands twice
abbrev pub AreApart : {X : Type 0} → List X → Type 0
AreApart xs = AllPairs (λ a b. a ≢ b) xs

apart_first : {X : Type 0} (x : X) (xs : List X) → AreApart (x ∷ xs) → Contains xs x → ⊥
apart_first x xs apart h = apart 0 (suc h.0) x (omega arith) (let l = h.1 in omega arith) (sym h.2)

apart_rest : {X : Type 0} (x : X) (xs : List X) → AreApart (x ∷ xs) → AreApart xs
apart_rest x xs apart = λ i j d less within. apart (suc i) (suc j) d (omega arith) (omega arith)

-- an element of the list without the one at a place stands elsewhere in the list
contains_removed : {X : Type 0} (xs : List X) (n : ℕ) (y : X) → n < length xs → Contains xs y
    → (get_or xs n y ≡ y) ⊎ Contains (remove xs n) y
contains_removed xs n y less h =
    let p = IsPermutation-remove xs n (get_or xs n y) less (get_or_default xs n y (get_or xs n y) less) in
    contains_cases (get_or xs n y) (remove xs n) y (Contains-permutation xs (get_or xs n y ∷ remove xs n) y p h)

-- what is taken out of a list without repeats is not left in it
not_removed : {X : Type 0} (ys : List X) (n : ℕ) (x : X) → n < length ys → get_or ys n x ≡ x → AreApart ys → Contains (remove ys n) x → ⊥
not_removed ys n x less at apart h =
    elim (cases_lt h.0 n) [
      | inl before ↦ apart h.0 n x before less (sym (get_or-remove_below ys n x h.0 before less) ∙ (h.2 ∙ sym at))
      | inr after ↦
          let long = length-remove ys n less in
          let k_in = h.1 in
          apart n (h.0 + 1) x (omega arith) (omega arith) (at ∙ sym (sym (get_or-remove_above ys n x h.0 after less) ∙ h.2))
    ]

pub permutation : {X : Type 0} (xs ys : List X) → AreApart xs → AreApart ys → ((x : X) → Contains xs x → Contains ys x)
    → ((x : X) → Contains ys x → Contains xs x) → IsPermutation xs ys
permutation [] [] a b to from = IsPermutation-refl []
permutation [] (y ∷ ys) a b to from = absurd (let h = from y (0, omega arith, refl) in let l = h.1 in omega arith)
permutation (x ∷ xs) ys a b to from =
    let at = to x (0, omega arith, refl) in
    let n : ℕ = at.0 in
    let p : IsPermutation ys (x ∷ remove ys n) = IsPermutation-remove ys n x at.1 (sym at.2) in
    let back = IsPermutation-sym ys (x ∷ remove ys n) p in
    let rest : AreApart (remove ys n) = all_pairs_remove (λ c d. c ≢ d) ys n at.1 b in
    let smaller : IsPermutation xs (remove ys n) =
    permutation xs (remove ys n) (apart_rest x xs a) rest
    (λ z h.
    elim (contains_removed ys n z at.1 (to z (contains_later x xs z h))) [
      | inl same ↦ absurd (apart_first x xs a (subst (Contains xs) (sym same ∙ (get_or_default ys n z x at.1 ∙ at.2)) h))
      | inr there ↦ there
    ])
    (λ z h.
    elim (contains_cases x xs z (from z (Contains-permutation (x ∷ remove ys n) ys z back (contains_later x (remove ys n) z h)))) [
      | inl same ↦ absurd (not_removed ys n x at.1 at.2 b (subst (Contains (remove ys n)) (sym same) h))
      | inr there ↦ there
    ]) in
    IsPermutation-trans (x ∷ xs) (x ∷ remove ys n) ys (IsPermutation-cons x xs (remove ys n) smaller) back
