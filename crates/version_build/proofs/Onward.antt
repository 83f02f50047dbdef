-- The next of some known components, whose list is gone through from its first one on.
use Rattle.std.proofs.Common.{◌≡◌, ℕ, suc, ◌<◌, List, ◌∷◌, length, get_or, drop, map, Option, None, sym, ap, ◌∙◌, inl, inr, arith}
use Rattle.std.specs.Option.{option_map}
use Rattle.std.proofs.lemmas.Bool.{cases_lt}
use Rattle.std.proofs.lemmas.List.{drop_all, get_or-map}
use Rattle.std.proofs.Math.Seq.{drop-cons}

module _ {A : Type 0} (all rest : List (Option A)) (known : Option A) (upto : ℕ) (left : known ∷ rest ≡ drop upto all) where
  pub next_less : upto < length all
  next_less =
      elim (cases_lt upto (length all)) [
        | inl less ↦ less
        | inr end ↦ absurd (let none = ap length (left ∙ drop_all upto all end) in omega arith)
      ]

  pub next_parts : known ∷ rest ≡ get_or all upto None ∷ drop (suc upto) all
  next_parts = left ∙ drop-cons all upto None next_less

  -- and as its value
  pub next_value : {B : Type 0} (value : A → B) → get_or (map (option_map value) all) upto None ≡ option_map value known
  next_value value = get_or-map (option_map value) all upto None None next_less ∙ ap (option_map value) (sym (ap (λ xs. get_or xs 0 None) next_parts))
