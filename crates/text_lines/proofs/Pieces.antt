-- The pieces of a text between the bytes that pass a test.
use Rattle.std.proofs.Common.{◌≡◌, ℕ, zero, suc, ◌+◌, ◌<◌, ◌≤◌, Bool, true, false, List, [], ◌∷◌, ◌++◌, length, get_or, take, drop, All, refl, sym, ap, ◌∙◌, ◌⊎◌, arith, inl, inr}
use Rattle.std.specs.List.{slice_split}
use Rattle.std.proofs.lemmas.Bool.{cases_Bool}
use Rattle.std.proofs.lemmas.List.{take-append-drop, drop_more, length-take-le, get_or-take, get_or_default}
use Rattle.std.proofs.lemmas.List.Splits.{slice_split_at, slice_split_none}
use Rattle.text_lines.specs.Words.{runs_of}

module _ (parts : ℕ → Bool) where
  -- each byte of the text, up to the place, passes the test, or none does
  abbrev pub Pass : Bool → List ℕ → ℕ → Type 0
  Pass are text n = (k : ℕ) → k < n → parts (get_or text k 0) ≡ are

  -- where no byte passes, the text is the one piece
  pub pieces_whole : (text : List ℕ) → Pass false text (length text) → slice_split parts text ≡ text ∷ []
  pieces_whole text none = slice_split_none parts text (λ k d lt. rw (get_or_default text k d 0 lt) (none k lt))

  -- the first piece ends at the first byte that passes
  pub pieces_cut : (text : List ℕ) (i : ℕ) → i < length text → parts (get_or text i 0) ≡ true → Pass false text i
      → slice_split parts text ≡ take i text ∷ slice_split parts (drop (i + 1) text)
  pieces_cut text i lt here none =
      let len : length (take i text) ≡ i = length-take-le i text (omega arith) in
      let rest : drop i text ≡ get_or text i 0 ∷ drop (i + 1) text = drop_more text i 0 lt in
      let joined : text ≡ take i text ++ get_or text i 0 ∷ drop (i + 1) text = sym (take-append-drop i text) ∙ ap (λ (r : List ℕ). take i text ++ r) rest in
      let clear : All (λ byte. parts byte ≡ false) (take i text) =
      λ k d below. let under : k < i = omega arith in rw (get_or-take i text k d under, get_or_default text k d 0 (omega arith)) (none k under) in
      ap (slice_split parts) joined ∙ slice_split_at parts (take i text) (get_or text i 0) (drop (i + 1) text) clear here

  -- a byte between pieces changes no run
  pub runs_gap : (byte : ℕ) (text : List ℕ) → parts byte ≡ true → runs_of parts (byte ∷ text) ≡ runs_of parts text
  runs_gap byte text here = rw here refl

  pub runs_skip : (text : List ℕ) (n : ℕ) → n ≤ length text → Pass true text n → runs_of parts (drop n text) ≡ runs_of parts text
  runs_skip text zero le here = refl
  runs_skip [] (suc n) le here = refl
  runs_skip (byte ∷ text) (suc n) le here =
      runs_skip text n (omega arith) (λ k lt. here (suc k) (omega arith)) ∙ sym (runs_gap byte text (here 0 (omega arith)))

  below_first : (byte : ℕ) (text : List ℕ) (n k : ℕ) → parts byte ≡ false → Pass false text n → k < suc n → parts (get_or (byte ∷ text) k 0) ≡ false
  below_first byte text n zero other none lt = other
  below_first byte text n (suc k) other none lt = none k (omega arith)

  -- a first byte passes, or none does
  pub first_or_none : (text : List ℕ) → Pass false text (length text) ⊎ ((i : ℕ) × (i < length text) × (parts (get_or text i 0) ≡ true) × Pass false text i)
  first_or_none [] = inl (λ k lt. absurd (omega arith))
  first_or_none (byte ∷ text) = elim (cases_Bool (parts byte)) [
    | inl here ↦ inr (0, omega arith, here, λ k lt. absurd (omega arith))
    | inr other ↦ elim (first_or_none text) [
      | inl none ↦ inl (λ k lt. below_first byte text (length text) k other none (omega arith))
      | inr found ↦ inr (suc found.0, omega (arith, found.1), found.2, λ k lt. below_first byte text found.0 k other found.3 (omega arith))
    ]
  ]
