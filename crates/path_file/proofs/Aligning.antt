-- Bytes that are one, taken apart in two ways.
use Rattle.std.proofs.Common.{◌≡◌, ℕ, suc, ◌<◌, ◌≤◌, List, [], ◌∷◌, ◌++◌, length, get_or, take, drop, refl, sym, ap, ◌∙◌, append_assoc, arith}
use Rattle.std.specs.List.{flat_map}

-- of two lists the one is a front of the other, and what stands behind it is the same
pub record IsFrontOf {X : Type 0} (f : X → List ℕ) (xs ys : List X) (r s : List ℕ) : Type 0 where
  pub front : xs ≡ take (length xs) ys
  pub behind : r ≡ flat_map f (drop (length xs) ys) ++ s

-- Where the bytes of two elements that may be compared can be told apart, so can those of lists of them.
module _ {X : Type 0} (f : X → List ℕ) (R : X → X → Type 0)
    (apart : (x y : X) (a b : List ℕ) → R x y → f x ++ a ≡ f y ++ b → (x ≡ y) × (a ≡ b)) where
  pub aligned : (xs ys : List X) (r s : List ℕ) → length xs ≤ length ys → ((k : ℕ) (d : X) → k < length xs → R (get_or xs k d) (get_or ys k d))
      → flat_map f xs ++ r ≡ flat_map f ys ++ s → IsFrontOf f xs ys r s
  aligned [] ys r s long each same = record { front = refl; behind = same }
  aligned (x ∷ xs) [] r s long each same = absurd (omega arith)
  aligned (x ∷ xs) (y ∷ ys) r s long each same =
      let first = apart x y (flat_map f xs ++ r) (flat_map f ys ++ s) (each 0 x (omega arith))
      (sym (append_assoc (f x) (flat_map f xs) r) ∙ same ∙ append_assoc (f y) (flat_map f ys) s) in
      let later = aligned xs ys r s (omega arith) (λ k d less. each (suc k) d (omega arith)) first.1 in
      record {
        front = ap (λ l. x ∷ l) later.front ∙ ap (λ z. z ∷ take (length xs) ys) first.0;
        behind = later.behind;
      }

  -- lists of one length are one
  pub aligned_whole : (xs ys : List X) (r s : List ℕ) → length xs ≡ length ys → ((k : ℕ) (d : X) → k < length xs → R (get_or xs k d) (get_or ys k d))
      → flat_map f xs ++ r ≡ flat_map f ys ++ s → (xs ≡ ys) × (r ≡ s)
  aligned_whole [] [] r s long each same = (refl, same)
  aligned_whole [] (y ∷ ys) r s long each same = absurd (omega arith)
  aligned_whole (x ∷ xs) [] r s long each same = absurd (omega arith)
  aligned_whole (x ∷ xs) (y ∷ ys) r s long each same =
      let first = apart x y (flat_map f xs ++ r) (flat_map f ys ++ s) (each 0 x (omega arith))
      (sym (append_assoc (f x) (flat_map f xs) r) ∙ same ∙ append_assoc (f y) (flat_map f ys) s) in
      let later = aligned_whole xs ys r s (omega arith) (λ k d less. each (suc k) d (omega arith)) first.1 in
      (ap (λ l. x ∷ l) later.0 ∙ ap (λ z. z ∷ ys) first.0, later.1)
