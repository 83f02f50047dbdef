-- What holds of the elements of a list below an index.
use Rattle.std.proofs.Common.{◌≡◌, ℕ, ◌+◌, ◌<◌, List, length, get_or, sym, ap, ◌∙◌, subst, inl, inr, arith}
use Rattle.std.specs.List.{Contains}
use Rattle.std.proofs.lemmas.Bool.{cases_lt}
use Rattle.std.proofs.lemmas.List.{get_or_default}

abbrev pub AllBelow : {X : Type 0} → (X → Type 0) → List X → ℕ → Type 0
AllBelow {X} P xs i = (k : ℕ) → k < i → (x : X) → get_or xs k x ≡ x → P x

module _ {X : Type 0} where
  pub all_below_none : (P : X → Type 0) (xs : List X) → AllBelow P xs 0
  all_below_none P xs = λ k less x at. absurd (omega arith)

  pub all_below_more : (P Q : X → Type 0) (xs : List X) (i : ℕ) (y : X) → i < length xs → y ≡ get_or xs i y → AllBelow P xs i → ((x : X) → P x → Q x) → Q y → AllBelow Q xs (i + 1)
  all_below_more P Q xs i y within is before weaker here = λ k less x at.
      elim (cases_lt k i) [
        | inl earlier ↦ weaker x (before k earlier x at)
        | inr now ↦
            let e : k ≡ i = omega arith in
            let same : y ≡ x = is ∙ (get_or_default xs i y x within ∙ (ap (λ n. get_or xs n x) (sym e) ∙ at)) in
            subst Q same here
      ]

  -- an element read with a default is the one there
  pub read_at : (xs : List X) (i : ℕ) (d : X) → i < length xs → get_or xs i d ≡ get_or xs i (get_or xs i d)
  read_at xs i d within = get_or_default xs i d (get_or xs i d) within

  -- and so it is read in an equal list
  pub read_in : (xs ys : List X) → xs ≡ ys → (i : ℕ) (d : X) → i < length xs → get_or xs i d ≡ get_or ys i (get_or xs i d)
  read_in xs ys same i d within = read_at xs i d within ∙ ap (λ zs. get_or zs i (get_or xs i d)) same

  pub all_below_contained : (P : X → Type 0) (xs : List X) (i : ℕ) → length xs ≡ i → AllBelow P xs i → (x : X) → Contains xs x → P x
  all_below_contained P xs i all before x has = let less = has.1 in before has.0 (omega arith) x has.2
