-- A list from what there is at each of its places.
use Rattle.std.proofs.Common.{◌≡◌, ℕ, zero, suc, ◌<◌, List, [], ◌∷◌, ◌++◌, length, get_or, refl, sym, subst, inl, inr, arith}
use Rattle.std.proofs.lemmas.Bool.{cases_lt}
use Rattle.std.proofs.lemmas.List.{get_or_append_left, get_or_push, length_push}

-- a list of that length, in which this holds at each place
pub record IsListed {A : Type 0} (P : ℕ → A → Type 0) (d : A) (n : ℕ) : Type 0 where
  pub items : List A
  pub whole : length items ≡ n
  pub each : (k : ℕ) → k < n → P k (get_or items k d)

pub listed : {A : Type 0} (P : ℕ → A → Type 0) (d : A) (n : ℕ) → ((k : ℕ) → k < n → (x : A) × P k x) → IsListed P d n
listed P d zero each = record { items = []; whole = refl; each = λ k less. absurd (omega arith) }
listed P d (suc n) each =
    let before = listed P d n (λ k less. each k (omega arith)) in
    let last = each n (omega arith) in
    let whole = before.whole in
    let longer = length_push before.items last.0 in
    record {
      items = before.items ++ last.0 ∷ [];
      whole = omega arith;
      each = λ k less.
          elim (cases_lt k n) [
            | inl early ↦ subst (P k) (sym (get_or_append_left before.items (last.0 ∷ []) d k (omega arith))) (before.each k early)
            | inr late ↦
                let same : n ≡ k = omega arith in
                subst (P k) (sym (get_or_push before.items last.0 d k (omega arith))) (subst (λ j. P j last.0) same last.1)
          ];
    }
