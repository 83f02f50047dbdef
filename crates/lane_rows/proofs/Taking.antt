-- Wanted places, taken one by one.
use Rattle.std.proofs.Common.{◌≡◌, ℕ, ◌+◌, ◌<◌, ◌≤◌, replicate, Bool, true, false, List, [], ◌∷◌, ◌++◌, length, get_or, set, take, All, Contains, inl, inr, refl, sym, ap, subst, ◌∙◌, arith, get_or-set_other, get_or-set_same}
use Rattle.std.proofs.Math.ListN.{length-set}
use Rattle.std.proofs.lemmas.List.{take_more_set}
use Rattle.std.proofs.lemmas.Simd.{get_or-replicate}
use Rattle.std.proofs.lemmas.Bool.{cases_eq}
use Rattle.std.proofs.lemmas.List.Elements.{All-set, All-push, All-contains, Contains-push, Contains-append_left}
use Rattle.lane_rows.specs.Tiles.{AreTaken}

pub taken_none : (old : List Bool) → AreTaken old old []
taken_none old = record { wanted = λ k d l. absurd (omega arith); done = λ k d l. absurd (omega arith); others = λ place apart. refl }

pub taken_more : (old new : List Bool) (taken : List ℕ) (place : ℕ) → place < length new → get_or new place false ≡ true → AreTaken old new taken → AreTaken old (set new place false) (taken ++ place ∷ [])
taken_more old new taken place inside wish before = record {
  wanted = All-push (λ at. get_or old at false ≡ true) taken place before.wanted (sym (before.others place away) ∙ wish);
  done = All-push (λ at. get_or (set new place false) at false ≡ false) taken place (λ k d l. still (get_or taken k d) (before.done k d l)) (get_or-set_same new place false false inside);
  others = λ at apart. elim (cases_eq at place) [
    | inl same ↦ absurd (apart (subst (λ p. Contains (taken ++ place ∷ []) p) (sym same) (Contains-push taken place)))
    | inr other ↦ get_or-set_other new place at false false other ∙ before.others at (λ here. apart (Contains-append_left taken (place ∷ []) at here))
  ];
}
  where
    away : Contains taken place → ⊥
    away here = let no_more : get_or new place false ≡ false = All-contains (λ at. get_or new at false ≡ false) taken place before.done here in cc

    still : (at : ℕ) → get_or new at false ≡ false → get_or (set new place false) at false ≡ false
    still at was = elim (cases_eq at place) [
      | inl same ↦ ap (λ p. get_or (set new place false) p false) same ∙ get_or-set_same new place false false inside
      | inr other ↦ get_or-set_other new place at false false other ∙ was
    ]

-- so many places are taken, in a list of sixteen
pub record IsTaking (old new : List Bool) (sources : List ℕ) (count : ℕ) : Type 0 where
  pub some : 0 < count
  pub most : count ≤ 16
  pub room : length sources ≡ 16
  pub long : length new ≡ length old
  pub inside : All (λ place. place < length old) sources
  pub taken : AreTaken old new (take count sources)

pub taking_first : (old new : List Bool) (first : ℕ) → first < length old → get_or old first false ≡ true → new ≡ set old first false → IsTaking old new (replicate 16 first) 1
taking_first old new first inside wish e = record {
  some = omega arith;
  most = omega arith;
  room = refl;
  long = ap length e ∙ length-set old first false;
  inside = λ k d l. subst (λ place. place < length old) (sym (get_or-replicate 16 k first d l)) inside;
  taken = subst (λ list. AreTaken old list (first ∷ [])) (sym e) (taken_more old old [] first inside wish (taken_none old));
}

pub taking_next : (old new new' : List Bool) (sources : List ℕ) (count place : ℕ) → IsTaking old new sources count → (count ≡ 16 → ⊥) → (place < length new) × (get_or new place false ≡ true)
    → new' ≡ set new place false → IsTaking old new' (set sources count place) (count + 1)
taking_next old new new' sources count place before more wish e =
    let room = before.room in
    let some = before.some in
    let most = before.most in
    let long = before.long in
    let few : count < 16 = omega arith in
    let here = wish.0 in
    record {
      some = omega arith;
      most = omega arith;
      room = length-set sources count place ∙ room;
      long = ap length e ∙ length-set new place false ∙ long;
      inside = All-set (λ at. at < length old) sources count place (omega arith) before.inside;
      taken = subst (λ list. AreTaken old list (take (count + 1) (set sources count place))) (sym e)
          (subst (AreTaken old (set new place false)) (sym (take_more_set sources count place (omega arith))) (taken_more old new (take count sources) place here wish.1 before.taken));
    }

pub taking_inside : (old new : List Bool) (sources : List ℕ) (count : ℕ) → IsTaking old new sources count → (lane : ℕ) → lane < 16 → get_or sources lane 0 < length old
taking_inside old new sources count taking lane l = taking.inside lane 0 (let room = taking.room in omega arith)
