-- Components made of what was read, one after the other.
use Rattle.std.proofs.Common.{◌≡◌, ℕ, suc, ◌<◌, ◌≤◌, List, [], ◌∷◌, ◌++◌, length, get_or, take, drop, map, All, refl, sym, ap, ◌∙◌, subst, arith}
use Rattle.std.proofs.Math.Seq.{drop-cons, take-suc}
use Rattle.std.proofs.lemmas.List.{get_or-take, get_or_default, length-drop, length-take-le, length_push, map-append, take_all}
use Rattle.std.proofs.lemmas.List.Elements.{All-push}
use Rattle.cell_order.specs.declared.OrderKind.{OrderKind}
use Rattle.row_store.specs.Comps.{Comp}
use Rattle.row_store.specs.Rows.{AreRows}
use Rattle.path_file.specs.declared.fault.DbError.{DbError}
use Rattle.path_file.specs.declared.fault.DbError.TheVariants.{Fault, NoMemory}
use Rattle.path_file.specs.Readings.{IsFaultOfPart, IsReady, IsRefusalOfPart, IsRefusalOfParts, Parted, comp_of, no_part}

-- the rows of a part are right
abbrev pub HasRightRows : Parted → Type 0
HasRightRows part = AreRows part.cells part.rows

-- what is left of a list begins with the element at the place
module _ {X : Type 0} (all : List X) (n : ℕ) (x : X) (rest : List X) (left : x ∷ rest ≡ drop n all) where
  pub next_less : n < length all
  next_less = (let size = ap length left in omega (arith, length-drop n all))

  next_both : x ∷ rest ≡ get_or all n x ∷ drop (suc n) all
  next_both = left ∙ drop-cons all n x next_less

  pub next_is : get_or all n x ≡ x
  next_is = (let both = next_both in cc)

  pub next_rest : rest ≡ drop (suc n) all
  next_rest = (let both = next_both in cc)

  pub next_taken : take (suc n) all ≡ take n all ++ x ∷ []
  next_taken = take-suc all n x next_less ∙ ap (λ y. take n all ++ y ∷ []) next_is

-- components are made of the first parts, whose rows are right
pub record AreMade {A : Type 0} (value : A → Comp) (order : OrderKind) (all rest : List Parted) (comps : List A) : Type 0 where
  pub left : rest ≡ drop (length comps) all
  pub within : length comps ≤ length all
  pub made : map value comps ≡ map (comp_of order) (take (length comps) all)
  pub right : All HasRightRows (take (length comps) all)

pub made_none : {A : Type 0} (value : A → Comp) (order : OrderKind) (all : List Parted) (comps : List A) → comps ≡ [] → AreMade value order all all comps
made_none value order all comps none =
    subst (AreMade value order all all) (sym none) (record { left = refl; within = omega arith; made = refl; right = λ k d less. absurd (omega arith) })

module _ {A : Type 0} (value : A → Comp) (order : OrderKind) (all rest : List Parted) (part : Parted) (comps : List A)
    (p : AreMade value order all (part ∷ rest) comps) where
  pub part_less : length comps < length all
  part_less = next_less all (length comps) part rest p.left

  pub part_ready : All IsReady all → IsReady part
  part_ready ready = subst IsReady (next_is all (length comps) part rest p.left) (ready (length comps) part (next_less all (length comps) part rest p.left))

  pub part_refused : (number : ℕ) → number ≡ length comps → (error : DbError) → IsRefusalOfPart number part error → IsRefusalOfParts all error
  part_refused number is NoMemory wrong = tt
  part_refused number is (Fault fault) wrong =
      let less = next_less all (length comps) part rest p.left in
      let here : get_or all (length comps) no_part ≡ part = get_or_default all (length comps) no_part part less ∙ next_is all (length comps) part rest p.left in
      record {
        comp = length comps;
        inside = less;
        here = subst (λ q. IsFaultOfPart (length comps) q fault) (sym here) (subst (λ n. IsFaultOfPart n part fault) is wrong);
        before = λ label early.
            (let size = length-take-le (length comps) all p.within in
            subst HasRightRows (get_or-take (length comps) all label no_part early) (p.right label no_part (omega arith)));
      }

  pub made_more : (comp : A) (more : List A) → HasRightRows part → value comp ≡ comp_of order part → more ≡ comps ++ comp ∷ [] → AreMade value order all rest more
  made_more comp more right is pushed =
      let less = next_less all (length comps) part rest p.left in
      let size : length (comps ++ comp ∷ []) ≡ suc (length comps) = omega (arith, length_push comps comp) in
      let taken : take (length (comps ++ comp ∷ [])) all ≡ take (length comps) all ++ part ∷ [] =
      ap (λ n. take n all) size ∙ next_taken all (length comps) part rest p.left in
      subst (AreMade value order all rest) (sym pushed) (record {
        left = next_rest all (length comps) part rest p.left ∙ ap (λ n. drop n all) (sym size);
        within = omega arith;
        made = map-append value comps (comp ∷ []) ∙ ap (λ l. l ++ value comp ∷ []) p.made ∙ ap (λ c. map (comp_of order) (take (length comps) all) ++ c ∷ []) is
            ∙ sym (map-append (comp_of order) (take (length comps) all) (part ∷ [])) ∙ ap (map (comp_of order)) (sym taken);
        right = subst (All HasRightRows) (sym taken) (All-push HasRightRows (take (length comps) all) part p.right right);
      })

module _ {A : Type 0} (value : A → Comp) (order : OrderKind) (all rest : List Parted) (comps : List A) (p : AreMade value order all rest comps)
    (none : length rest ≡ 0) where
  all_taken : take (length comps) all ≡ all
  all_taken = (let size = ap length p.left in take_all (length comps) all (omega (arith, length-drop (length comps) all)))

  pub all_made : map value comps ≡ map (comp_of order) all
  all_made = p.made ∙ ap (map (comp_of order)) all_taken

  pub all_right : All HasRightRows all
  all_right = subst (All HasRightRows) all_taken p.right
