-- The components of a version, put together one after the other: those that are kept, and those that are built.
use Rattle.std.proofs.Common.{◌≡◌, ℕ, suc, ◌<◌, ◌≤◌, List, [], ◌∷◌, ◌++◌, length, get_or, drop, map, Option, None, Some, IfSome, refl, sym, ap, subst, ◌∙◌, inl, inr, arith}
use Rattle.std.specs.Option.{option_map}
use Rattle.std.proofs.lemmas.Bool.{cases_lt}
use Rattle.std.proofs.lemmas.List.{length_push, get_or_push, get_or_append_left, length-map, length-drop, map-append}
use Rattle.moves.specs.declared.Cell.{Cell}
use Rattle.moves.specs.Maps.{Map}
use Rattle.moves.specs.Components.{IsComponentList}
use Rattle.cell_order.specs.declared.OrderKind.{OrderKind}
use Rattle.row_store.specs.Comps.{Comp}
use Rattle.versions.specs.Databases.{component_at, comp_at, no_comp, IsDatabase, IsKeptAs}
use Rattle.version_build.specs.Plans.{ArePrepared, AreComplete}
use Rattle.version_build.proofs.Onward.{next_less, next_parts, next_value}

-- some components are there, and the others are still to be put to them
pub record IsAssembling {A : Type 0} (value : A → Comp) (order : OrderKind) (components : List (List Cell)) (all rest : List (Option A)) (comps : List A) : Type 0 where
  pub left : rest ≡ drop (length comps) all
  pub few : length comps ≤ length all
  pub each : (label : ℕ) → label < length comps → IsKeptAs order (component_at components label) (comp_at (map value comps) label)

pub assembling_none : {A : Type 0} (value : A → Comp) (order : OrderKind) (components : List (List Cell)) (all : List (Option A)) → IsAssembling value order components all all []
assembling_none value order components all = record { left = refl; few = omega arith; each = λ label less. absurd (omega arith) }

module _ {A : Type 0} (value : A → Comp) (order : OrderKind) (components : List (List Cell)) (all rest : List (Option A)) (known : Option A) (comps : List A)
    (p : IsAssembling value order components all (known ∷ rest) comps) where
  pub left_less : length comps < length all
  left_less = next_less all rest known (length comps) p.left

  -- what was prepared of the next component
  pub known_kept : ArePrepared order components (map (option_map value) all) → (comp : A) → known ≡ Some comp
      → IsKeptAs order (component_at components (length comps)) (value comp)
  known_kept prepared comp is =
      let size = length-map all (option_map value) in
      let told = prepared.each (length comps) (omega (arith, size, left_less)) in
      let read : get_or (map (option_map value) all) (length comps) None ≡ Some (value comp) =
      next_value all rest known (length comps) p.left value ∙ ap (option_map value) is in
      let some : IfSome (Some (value comp)) (IsKeptAs order (component_at components (length comps))) =
      subst (λ c. IfSome c (IsKeptAs order (component_at components (length comps)))) read told in
      some

  pub assembling_more : (comp : A) → IsKeptAs order (component_at components (length comps)) (value comp) → IsAssembling value order components all rest (comps ++ comp ∷ [])
  assembling_more comp is =
      let long = length_push comps comp in
      let size = length-map comps value in
      let same : map value (comps ++ comp ∷ []) ≡ map value comps ++ value comp ∷ [] = map-append value comps (comp ∷ []) in
      record {
        left = (let next : suc (length comps) ≡ length (comps ++ comp ∷ []) = omega arith in ap (drop 1) (next_parts all rest known (length comps) p.left) ∙ ap (λ n. drop n all) next);
        few = omega (arith, long, left_less);
        each = λ label less. subst (λ cs. IsKeptAs order (component_at components label) (comp_at cs label)) (sym same)
            (elim (cases_lt label (length comps)) [
              | inl early ↦
                  let read : comp_at (map value comps ++ value comp ∷ []) label ≡ comp_at (map value comps) label =
                  get_or_append_left (map value comps) (value comp ∷ []) no_comp label (omega arith) in
                  subst (IsKeptAs order (component_at components label)) (sym read) (p.each label early)
              | inr late ↦
                  let here : length comps ≡ label = omega arith in
                  let read : comp_at (map value comps ++ value comp ∷ []) label ≡ value comp = get_or_push (map value comps) (value comp) no_comp label (size ∙ here) in
                  subst (IsKeptAs order (component_at components label)) (sym read) (subst (λ k. IsKeptAs order (component_at components k) (value comp)) here is)
            ]);
      }

-- all are there
pub assembled : {A : Type 0} (value : A → Comp) (order : OrderKind) (components : List (List Cell)) (all rest : List (Option A)) (comps : List A)
    → length (map (option_map value) all) ≡ length components → IsAssembling value order components all rest comps → length rest ≡ 0 → AreComplete order components (map value comps)
assembled value order components all rest comps long p none =
    let size = length-map comps value in
    let many = length-map all (option_map value) in
    record {
      long = omega (arith, size, many, long, ap length p.left, length-drop (length comps) all, p.few, none);
      each = λ label less. p.each label (omega arith);
    }

-- and so they are the database of the map
pub database_from : (m : Map) (order : OrderKind) (components : List (List Cell)) (comps : List Comp) → IsComponentList m components → AreComplete order components comps → IsDatabase m order comps
database_from m order components comps listed complete = record { components = components; listed = listed; whole = complete.long; each = complete.each }
