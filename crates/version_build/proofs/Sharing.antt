-- What a former version has of the components of a map, found one component after the other.
use Rattle.std.proofs.Common.{◌≡◌, ℕ, ◌+◌, ◌-◌, ◌*◌, ◌<◌, ◌≤◌, ◌⊎◌, Bool, true, false, not, cond, List, [], ◌∷◌, ◌++◌, length, get_or, take, map, Option, None, Some, IfSome, All, refl, sym, ap, subst, ◌∙◌, inl, inr, arith}
use Rattle.std.specs.List.{sum_by, filter}
use Rattle.std.specs.Option.{option_map, is_some}
use Rattle.std.proofs.lemmas.Bool.{cases_lt, cond-true, cond-false, false≢true}
use Rattle.std.proofs.lemmas.List.{take_more, take_all, length_push, get_or_push, get_or_append_left, map-append}
use Rattle.std.proofs.lemmas.List.Elements.{filter-append, All-push}
use Rattle.std.proofs.lemmas.List.Filters.{sum_by-filter_both}
use Rattle.std.proofs.lemmas.List.Sums.{sum_by-append, sum_by-cons, sum_by_more}
use Rattle.moves.specs.declared.Cell.{Cell}
use Rattle.moves.specs.Maps.{Map, IsWithinLimits, passable_count}
use Rattle.moves.specs.Components.{IsComponentList}
use Rattle.cell_order.specs.declared.OrderKind.{OrderKind}
use Rattle.row_store.specs.Comps.{Comp}
use Rattle.versions.specs.Databases.{component_at, IsKeptAs}
use Rattle.versions.specs.Counts.{is_among, cells_kept, cells_built, AreCounts}
use Rattle.version_build.specs.Plans.{IsShared, ArePrepared, cells_missing}
use Rattle.versions.proofs.Counting.{sum_is, length_within}
use Rattle.version_build.proofs.Missing.{missing_in, missing_more}

-- kept and built make all
kept_and_built : (before xs : List (List Cell)) → cells_kept before xs + cells_built before xs ≡ sum_by length xs
kept_and_built before xs = sum_by-filter_both (is_among before) (λ cells. not (is_among before cells)) (λ cells. refl) length xs

one_kept : (b : Bool) (ys : List Cell) → sum_by length (cond b (ys ∷ []) []) ≡ cond b (length ys) 0
one_kept true ys = omega (arith, sum_by-cons length ys [])
one_kept false ys = refl

kept_push : (before xs : List (List Cell)) (ys : List Cell) → cells_kept before (xs ++ ys ∷ []) ≡ cells_kept before xs + cond (is_among before ys) (length ys) 0
kept_push before xs ys =
    ap (sum_by length) (filter-append (is_among before) xs (ys ∷ [])) ∙ (sum_by-append length (filter (is_among before) xs) (filter (is_among before) (ys ∷ []))
    ∙ ap (λ n. cells_kept before xs + n) (one_kept (is_among before ys) ys))

-- the components before a number are looked up, and the cells of those that were there are counted
pub record IsSharing (order : OrderKind) (before after : List (List Cell)) (comps : List (Option Comp)) (kept upto : ℕ) : Type 0 where
  pub long : length comps ≡ upto
  pub each : (label : ℕ) → label < upto → IfSome (get_or comps label None) (IsKeptAs order (component_at after label))
  pub counted : kept ≡ cells_kept before (take upto after)
  pub missing : kept + cells_missing (take upto after) comps ≡ sum_by length (take upto after)

pub sharing_none : (order : OrderKind) (before after : List (List Cell)) → IsSharing order before after [] 0 0
sharing_none order before after = record { long = refl; each = λ label less. absurd (omega arith); counted = refl; missing = refl }

module _ (order : OrderKind) (before after : List (List Cell)) (comps : List (Option Comp)) (kept upto : ℕ) (p : IsSharing order before after comps kept upto) (less : upto < length after) where
  each_more : (comp : Option Comp) → IfSome comp (IsKeptAs order (component_at after upto)) → (label : ℕ) → label < upto + 1
      → IfSome (get_or (comps ++ comp ∷ []) label None) (IsKeptAs order (component_at after label))
  each_more comp is label below =
      elim (cases_lt label upto) [
        | inl early ↦
            let read : get_or (comps ++ comp ∷ []) label None ≡ get_or comps label None = get_or_append_left comps (comp ∷ []) None label (omega (arith, p.long, early)) in
            subst (λ c. IfSome c (IsKeptAs order (component_at after label))) (sym read) (p.each label early)
        | inr late ↦
            let same : upto ≡ label = omega arith in
            let read : get_or (comps ++ comp ∷ []) label None ≡ comp = get_or_push comps comp None label (p.long ∙ same) in
            subst (λ c. IfSome c (IsKeptAs order (component_at after label))) (sym read) (subst (λ k. IfSome comp (IsKeptAs order (component_at after k))) same is)
      ]

  counted_more : cells_kept before (take (upto + 1) after) ≡ kept + cond (is_among before (component_at after upto)) (length (component_at after upto)) 0
  counted_more = ap (cells_kept before) (take_more after upto [] less) ∙ (kept_push before (take upto after) (component_at after upto)
      ∙ ap (λ n. n + cond (is_among before (component_at after upto)) (length (component_at after upto)) 0) (sym p.counted))

  missing_next : (comp : Option Comp) → cells_missing (take (upto + 1) after) (comps ++ comp ∷ []) ≡ cells_missing (take upto after) comps + missing_in (component_at after upto) comp
  missing_next comp = missing_more after comps comp upto p.long less

  sum_next : sum_by length (take (upto + 1) after) ≡ sum_by length (take upto after) + length (component_at after upto)
  sum_next = sum_by_more length after upto [] less

  -- one that is there
  pub sharing_some : (comp : Comp) → IsShared order before (component_at after upto) (Some comp)
      → IsSharing order before after (comps ++ Some comp ∷ []) (kept + length (component_at after upto)) (upto + 1)
  sharing_some comp is = record {
    long = length_push comps (Some comp) ∙ ap (λ n. n + 1) p.long;
    each = each_more (Some comp) is.1;
    counted = sym (counted_more ∙ ap (λ n. kept + n) (cond-true (is_among before (component_at after upto)) (length (component_at after upto)) 0 is.0));
    missing = omega (arith, missing_next (Some comp), sum_next, p.missing);
  }

  -- one that is not
  pub sharing_not : IsShared order before (component_at after upto) None → IsSharing order before after (comps ++ None ∷ []) kept (upto + 1)
  sharing_not is = record {
    long = length_push comps None ∙ ap (λ n. n + 1) p.long;
    each = each_more None tt;
    counted = sym (counted_more ∙ omega (arith, cond-false (is_among before (component_at after upto)) (length (component_at after upto)) 0 is));
    missing = omega (arith, missing_next None, sum_next, p.missing);
  }

-- one component more, which is there or not
pub sharing_next : {A : Type 0} (value : A → Comp) (order : OrderKind) (before after : List (List Cell)) (items now : List (Option A)) (comp : Option A)
    (kept counted upto : ℕ) (cells : List Cell) (some : Bool)
    → IsSharing order before after (map (option_map value) items) kept upto → upto < length after → cells ≡ component_at after upto → IsShared order before cells (option_map value comp)
    → now ≡ items ++ comp ∷ [] → some ≡ is_some comp → ((some ≡ true) × (counted ≡ kept + length cells)) ⊎ ((some ≡ false) × (counted ≡ kept))
    → IsSharing order before after (map (option_map value) now) counted (upto + 1)
sharing_next value order before after items now (Some comp) kept counted upto cells some p less here shared push is branch =
    elim branch [
      | inl there ↦
          let mapped : map (option_map value) now ≡ map (option_map value) items ++ Some (value comp) ∷ [] =
          ap (map (option_map value)) push ∙ map-append (option_map value) items (Some comp ∷ []) in
          let count : counted ≡ kept + length (component_at after upto) = there.1 ∙ ap (λ cs. kept + length cs) here in
          rw (mapped, count) (sharing_some order before after (map (option_map value) items) kept upto p less (value comp)
          (subst (λ cs. IsShared order before cs (Some (value comp))) here shared))
      | inr absent ↦ absurd (false≢true (sym absent.0 ∙ is))
    ]
sharing_next value order before after items now None kept counted upto cells some p less here shared push is branch =
    elim branch [
      | inl there ↦ absurd (false≢true (sym is ∙ there.0))
      | inr absent ↦
          let mapped : map (option_map value) now ≡ map (option_map value) items ++ None ∷ [] =
          ap (map (option_map value)) push ∙ map-append (option_map value) items (None ∷ []) in
          rw (mapped, absent.1) (sharing_not order before after (map (option_map value) items) kept upto p less (subst (λ cs. IsShared order before cs None) here shared))
    ]

module _ (order : OrderKind) (before after : List (List Cell)) (comps : List (Option Comp)) (kept upto : ℕ) (p : IsSharing order before after comps kept upto)
    (m : Map) (limits : IsWithinLimits m.width m.height) (whole : length m.terrain ≡ m.width * m.height) (listed : IsComponentList m after) where
  -- no more cells are kept than are passable
  pub room_shared : upto < length after → kept + length (component_at after upto) ≤ passable_count m
  room_shared less = omega (arith, p.counted, kept_and_built before (take upto after), length_within m limits whole after listed upto less)

  module _ (end : upto ≡ length after) where
    all_counted : kept ≡ cells_kept before after
    all_counted = p.counted ∙ ap (cells_kept before) (take_all upto after (omega arith))

    pub shared_prepared : ArePrepared order after comps
    shared_prepared = record { long = p.long ∙ end; each = λ label less. p.each label (omega (arith, p.long, less)) }

    pub shared_sum : kept + cells_built before after ≡ passable_count m
    shared_sum = omega (arith, all_counted, kept_and_built before after, sum_is m limits whole after listed)

    -- what is not kept is missing
    pub shared_missing : cells_missing after comps + kept ≡ passable_count m
    shared_missing = omega (
      arith,
      ap (λ cs. cells_missing cs comps) (take_all upto after (omega arith)),
      ap (sum_by length) (take_all upto after (omega arith)),
      p.missing,
      sum_is m limits whole after listed,
    )

    pub shared_counts : (former : Map) → IsComponentList former before → (built : ℕ) → built ≡ passable_count m - kept → AreCounts former m built kept
    shared_counts former known built is = record {
      before = before;
      after = after;
      listed_before = known;
      listed_after = listed;
      built_is = omega (arith, is, shared_sum);
      kept_is = all_counted;
    }

-- nothing is there
pub none_prepared : (order : OrderKind) (components : List (List Cell)) (comps : List (Option Comp))
    → All (λ comp. comp ≡ None) comps → length comps ≡ length components → ArePrepared order components comps
none_prepared order components comps none long = record {
  long = long;
  each = λ label less. subst (λ c. IfSome c (IsKeptAs order (component_at components label))) (sym (none label None less)) tt;
}

pub none_push : {A : Type 0} (value : A → Comp) (items : List (Option A)) → All (λ comp. comp ≡ None) (map (option_map value) items)
    → All (λ comp. comp ≡ None) (map (option_map value) (items ++ None ∷ []))
none_push value items none =
    subst (All (λ comp. comp ≡ None)) (sym (map-append (option_map value) items (None ∷ []))) (All-push (λ comp. comp ≡ None) (map (option_map value) items) None none refl)
