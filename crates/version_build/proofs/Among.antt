-- The one component of a former version that can have the same cells.
use Rattle.std.proofs.Common.{◌≡◌, ◌↔◌, ℕ, ◌<◌, Bool, true, false, ◌&&◌, List, [], ◌∷◌, length, Some, refl, sym, ap, subst, ◌∙◌, inl, inr, arith}
use Rattle.std.specs.List.{Contains}
use Rattle.std.specs.Cmp.Lexicographic.{pointwise}
use Rattle.std.proofs.lemmas.Bool.{cases_Bool, and_from, false≢true}
use Rattle.std.proofs.lemmas.List.{get_or_default}
use Rattle.std.proofs.lemmas.List.Folds.{Any-from_list_any, list_any_at}
use Rattle.moves.specs.declared.Cell.{Cell}
use Rattle.moves.specs.Maps.{Map, is_cell}
use Rattle.moves.specs.Components.{IsComponentList}
use Rattle.moves.proofs.Connected.{is_cell-true, is_cell-same}
use Rattle.components.specs.Groups.{IsLabelOf}
use Rattle.cell_order.specs.declared.OrderKind.{OrderKind}
use Rattle.row_store.specs.Comps.{Comp}
use Rattle.versions.specs.Databases.{component_at, comp_at, IsDatabase, IsKeptAs}
use Rattle.versions.specs.Counts.{is_same, is_among}
use Rattle.versions.proofs.Determined.{same_components}
use Rattle.version_build.specs.Plans.{IsShared}

and_both : (x y : Bool) → (x && y) ≡ true → (x ≡ true) × (y ≡ true)
and_both true true h = (refl, refl)
and_both true false h = absurd (false≢true h)
and_both false y h = absurd (false≢true h)

same_true : (xs ys : List Cell) → is_same xs ys ≡ true → xs ≡ ys
same_true [] [] h = refl
same_true [] (y ∷ ys) h = absurd (false≢true h)
same_true (x ∷ xs) [] h = absurd (false≢true h)
same_true (x ∷ xs) (y ∷ ys) h =
    let both = and_both (is_cell x y) (is_same xs ys) h in
    ap (λ c. c ∷ xs) (sym (is_cell-true x y both.0)) ∙ ap (λ cs. y ∷ cs) (same_true xs ys both.1)

same_itself : (xs : List Cell) → is_same xs xs ≡ true
same_itself [] = refl
same_itself (x ∷ xs) = and_from (is_cell x x) (is_same xs xs) (is_cell-same x x refl) (same_itself xs)

among_contains : (former : List (List Cell)) (cells : List Cell) → is_among former cells ≡ true → Contains former cells
among_contains former cells h =
    let found = Any-from_list_any (is_same cells) former h in
    (found.0, found.2, get_or_default former found.0 cells found.1 found.2 ∙ (found.3 ∙ sym (same_true cells found.1 found.4)))

contains_among : (former : List (List Cell)) (cells : List Cell) → Contains former cells → is_among former cells ≡ true
contains_among former cells has = list_any_at (is_same cells) former has.0 cells has.1 (ap (is_same cells) has.2 ∙ same_itself cells)

module _ (known : List (List Cell)) (cells : List Cell) (first : Cell) (has : Contains cells first) where
  -- where the cells are a former component, the first of them has its label
  label_among : is_among known cells ≡ true → (label : ℕ) × IsLabelOf known first label × (component_at known label ≡ cells)
  label_among h =
      let there = among_contains known cells h in
      let is : component_at known there.0 ≡ cells = get_or_default known there.0 [] cells there.1 ∙ there.2 in
      (there.0, record { below = there.1; has = subst (λ c. Contains c first) (sym is) has }, is)

  pub not_known : ((label : ℕ) → IsLabelOf known first label → ⊥) → is_among known cells ≡ false
  not_known none =
      elim (cases_Bool (is_among known cells)) [
        | inl among ↦ let at = label_among among in absurd (none at.0 at.1)
        | inr not ↦ not
      ]

  pub not_same : (label : ℕ) → ((other : ℕ) → IsLabelOf known first other → other ≡ label) → (component_at known label ≡ cells → ⊥) → is_among known cells ≡ false
  not_same label alone differ =
      elim (cases_Bool (is_among known cells)) [
        | inl among ↦ let at = label_among among in absurd (differ (ap (component_at known) (sym (alone at.0 at.1)) ∙ at.2))
        | inr not ↦ not
      ]

-- a former component with the same cells is kept as the former version keeps it
pub shared_same : (map : Map) (order : OrderKind) (comps : List Comp) → IsDatabase map order comps → (known : List (List Cell)) → IsComponentList map known
    → (cells : List Cell) (label : ℕ) → label < length known → component_at known label ≡ cells → (comp : Comp) → comp_at comps label ≡ comp → IsShared order known cells (Some comp)
shared_same map order comps database known listed cells label less same comp is =
    let components = same_components map database.components known database.listed listed in
    let within : label < length comps = omega (arith, database.whole, ap length components, less) in
    let whole : component_at database.components label ≡ cells = ap (λ ls. component_at ls label) components ∙ same in (
      contains_among known cells (label, less, get_or_default known label cells [] less ∙ same),
      subst (IsKeptAs order cells) is (subst (λ c. IsKeptAs order c (comp_at comps label)) whole (database.each label within)),
    )

-- a test that goes pair by pair is that of the definition
pointwise_is_same : (test : Cell → Cell → Bool) → ((x y : Cell) → test x y ≡ is_cell x y) → (xs ys : List Cell) → pointwise test xs ys ≡ is_same xs ys
pointwise_is_same test alike [] [] = refl
pointwise_is_same test alike [] (y ∷ ys) = refl
pointwise_is_same test alike (x ∷ xs) [] = refl
pointwise_is_same test alike (x ∷ xs) (y ∷ ys) = λ i. alike x y i && pointwise_is_same test alike xs ys i

-- and so it tells whether the lists are one
pub pointwise_decides_cells : (test : Cell → Cell → Bool) → ((x y : Cell) → test x y ≡ is_cell x y) → (xs ys : List Cell) → (pointwise test xs ys ≡ true) ↔ (xs ≡ ys)
pointwise_decides_cells test alike xs ys =
    let e = pointwise_is_same test alike xs ys in (
      λ same. same_true xs ys (sym e ∙ same),
      λ same. e ∙ (ap (is_same xs) (sym same) ∙ same_itself xs),
    )
