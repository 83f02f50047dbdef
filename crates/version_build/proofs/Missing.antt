-- How many cells are in the components whose database is yet to be built.
use Rattle.std.proofs.Common.{◌≡◌, ℕ, suc, ◌+◌, ◌<◌, List, [], ◌∷◌, ◌++◌, length, take, Option, None, Some, All, refl, ap, ◌∙◌, arith}
use Rattle.std.specs.List.{sum_by}
use Rattle.std.proofs.lemmas.List.{take_more, length-take-le}
use Rattle.std.proofs.lemmas.List.Sums.{sum_by-cons}
use Rattle.moves.specs.declared.Cell.{Cell}
use Rattle.row_store.specs.Comps.{Comp}
use Rattle.versions.specs.Databases.{component_at}
use Rattle.version_build.specs.Plans.{cells_missing}

-- how many of them are in one component
abbrev pub missing_in : List Cell → Option Comp → ℕ
missing_in component None = length component
missing_in component (Some comp) = 0

pub missing_cons : (component : List Cell) (components : List (List Cell)) (comp : Option Comp) (comps : List (Option Comp))
    → cells_missing (component ∷ components) (comp ∷ comps) ≡ missing_in component comp + cells_missing components comps
missing_cons component components None comps = refl
missing_cons component components (Some comp) comps = omega arith

missing_alone : (component : List Cell) (comp : Option Comp) → cells_missing (component ∷ []) (comp ∷ []) ≡ missing_in component comp
missing_alone component None = omega arith
missing_alone component (Some comp) = refl

missing_push : (components : List (List Cell)) (component : List Cell) (comps : List (Option Comp)) (comp : Option Comp) → length comps ≡ length components
    → cells_missing (components ++ component ∷ []) (comps ++ comp ∷ []) ≡ cells_missing components comps + missing_in component comp
missing_push [] component [] comp long = omega (arith, missing_alone component comp)
missing_push [] component (k ∷ ks) comp long = absurd (omega arith)
missing_push (c ∷ cs) component [] comp long = absurd (omega arith)
missing_push (c ∷ cs) component (k ∷ ks) comp long =
    omega (arith, missing_cons c (cs ++ component ∷ []) k (ks ++ comp ∷ []), missing_cons c cs k ks, missing_push cs component ks comp (omega arith))

-- one component more
pub missing_more : (components : List (List Cell)) (comps : List (Option Comp)) (comp : Option Comp) (upto : ℕ) → length comps ≡ upto → upto < length components
    → cells_missing (take (upto + 1) components) (comps ++ comp ∷ []) ≡ cells_missing (take upto components) comps + missing_in (component_at components upto) comp
missing_more components comps comp upto long less =
    ap (λ cs. cells_missing cs (comps ++ comp ∷ [])) (take_more components upto [] less)
    ∙ missing_push (take upto components) (component_at components upto) comps comp (omega (arith, long, length-take-le upto components (omega arith)))

-- where nothing is there all cells are missing
pub missing_all : (components : List (List Cell)) (comps : List (Option Comp)) → All (λ comp. comp ≡ None) comps
    → length comps ≡ length components → cells_missing components comps ≡ sum_by length components
missing_all [] comps none long = refl
missing_all (c ∷ cs) [] none long = absurd (omega arith)
missing_all (c ∷ cs) (None ∷ ks) none long = omega (arith, sum_by-cons length c cs, missing_all cs ks (λ k d less. none (suc k) d (omega arith)) (omega arith))
missing_all (c ∷ cs) (Some comp ∷ ks) none long = absurd (some_is_not_none comp (none 0 None (omega arith)))
  where
    some_is_not_none : (comp : Comp) → Some comp ≡ None → ⊥
    some_is_not_none comp is = cc
