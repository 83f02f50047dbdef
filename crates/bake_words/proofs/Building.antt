-- The components of a version, built one after the other.
use Rattle.std.proofs.Common.{◌≡◌, ℕ, ◌+◌, ◌<◌, List, [], ◌∷◌, ◌++◌, length, map, refl, sym, subst, inl, inr, arith}
use Rattle.std.proofs.lemmas.Bool.{cases_lt}
use Rattle.std.proofs.lemmas.List.{get_or_append_left, get_or_push, length-map, length_push, map-append}
use Rattle.moves.specs.declared.Cell.{Cell}
use Rattle.moves.specs.Maps.{Map, IsSearchable, IsWithinLimits}
use Rattle.cell_order.specs.declared.OrderKind.{OrderKind}
use Rattle.row_store.specs.Comps.{Comp}
use Rattle.versions.specs.Databases.{Versioned, component_at, comp_at, no_comp, IsDatabase, IsKeptAs, version_of}
use Rattle.version_build.specs.Plans.{AreComplete}
use Rattle.bake_words.specs.Baking.{IsFirstVersion}

-- so many components are there
pub record AreBuilt {A : Type 0} (value : A → Comp) (order : OrderKind) (components : List (List Cell)) (comps : List A) (count : ℕ) : Type 0 where
  pub long : length comps ≡ count
  pub each : (label : ℕ) → label < count → IsKeptAs order (component_at components label) (comp_at (map value comps) label)

pub built_none : {A : Type 0} (value : A → Comp) (order : OrderKind) (components : List (List Cell)) → AreBuilt value order components [] 0
built_none value order components = record { long = refl; each = λ label less. absurd (omega arith) }

-- one more
pub built_more : {A : Type 0} (value : A → Comp) (order : OrderKind) (components : List (List Cell)) (comps : List A) (count : ℕ) (comp : A)
    → AreBuilt value order components comps count → IsKeptAs order (component_at components count) (value comp)
    → AreBuilt value order components (comps ++ comp ∷ []) (count + 1)
built_more value order components comps count comp p is =
    let long = length_push comps comp in
    let size = length-map comps value in
    let whole = p.long in
    let same : map value (comps ++ comp ∷ []) ≡ map value comps ++ value comp ∷ [] = map-append value comps (comp ∷ []) in
    record {
      long = omega arith;
      each = λ label less. subst (λ cs. IsKeptAs order (component_at components label) (comp_at cs label)) (sym same)
          (elim (cases_lt label count) [
            | inl early ↦
                let read : comp_at (map value comps ++ value comp ∷ []) label ≡ comp_at (map value comps) label =
                get_or_append_left (map value comps) (value comp ∷ []) no_comp label (omega arith) in
                subst (IsKeptAs order (component_at components label)) (sym read) (p.each label early)
            | inr late ↦
                let here : count ≡ label = omega arith in
                let read : comp_at (map value comps ++ value comp ∷ []) label ≡ value comp = get_or_push (map value comps) (value comp) no_comp label (omega arith) in
                subst (IsKeptAs order (component_at components label)) (sym read) (subst (λ k. IsKeptAs order (component_at components k) (value comp)) here is)
          ]);
    }

-- all are there
pub built_all : {A : Type 0} (value : A → Comp) (order : OrderKind) (components : List (List Cell)) (comps : List A) (count : ℕ)
    → AreBuilt value order components comps count → count ≡ length components → AreComplete order components (map value comps)
built_all value order components comps count p all =
    let size = length-map comps value in
    let whole = p.long in
    record { long = omega arith; each = λ label less. p.each label (omega arith) }

-- the version of a map with these
pub first_made : (m : Map) (order : OrderKind) (comps : List Comp) (version : Versioned) → version ≡ version_of m 0 order comps → IsSearchable m
    → IsDatabase m order comps → IsWithinLimits m.width m.height → IsFirstVersion m order version
first_made m order comps version same searchable database sides =
    subst (IsFirstVersion m order) (sym same)
    (record { of = refl; first = refl; in_order = refl; is = record { searchable = searchable; database = database }; sides = sides })
