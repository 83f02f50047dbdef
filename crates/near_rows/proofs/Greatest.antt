-- The greatest of some numbers, one after the other.
use Rattle.std.proofs.Common.{◌≡◌, ℕ, ◌+◌, ◌<◌, ◌≤◌, max, List, length, get_or, All, sym, subst, ◌∙◌, inl, inr, arith}
use Rattle.std.specs.List.{Contains, Any}
use Rattle.std.proofs.lemmas.Bool.{cases_lt}
use Rattle.std.proofs.lemmas.List.{get_or_default}
use Rattle.near_rows.specs.NearRows.{Nearby, IsGreatest}
use Rattle.near_rows.specs.NearVersions.{IsWidest}

-- the greatest of the numbers before a place
pub record IsGreatestTo (numbers : List ℕ) (upto greatest : ℕ) : Type 0 where
  pub most : (k d : ℕ) → k < upto → k < length numbers → get_or numbers k d ≤ greatest
  pub attained : 0 < greatest → Contains numbers greatest

pub greatest_none : (numbers : List ℕ) → IsGreatestTo numbers 0 0
greatest_none numbers = record { most = λ k d before. absurd (omega arith); attained = λ above. absurd (omega arith) }

pub greatest_more : (numbers : List ℕ) (upto greatest value : ℕ) → IsGreatestTo numbers upto greatest → upto < length numbers
    → value ≡ get_or numbers upto value → IsGreatestTo numbers (upto + 1) (max greatest value)
greatest_more numbers upto greatest value p within at = record {
  most = λ k d before inside. elim (cases_lt k upto) [
    | inl early ↦ let low = p.most k d early inside in omega arith
    | inr late ↦
        let same : k ≡ upto = omega arith in
        let here : get_or numbers k d ≡ value = subst (λ j. get_or numbers j d ≡ value) (sym same) (get_or_default numbers upto d value within ∙ sym at) in
        omega arith
  ];
  attained = λ above. elim (cases_lt greatest value) [
    | inl new ↦
        let is : max greatest value ≡ value = omega arith in
        rw is (upto, within, sym at)
    | inr old ↦
        let is : max greatest value ≡ greatest = omega arith in
        rw is (p.attained (omega arith))
  ];
}

pub greatest_all : (numbers : List ℕ) (upto greatest : ℕ) → IsGreatestTo numbers upto greatest → length numbers ≤ upto → IsGreatest numbers greatest
greatest_all numbers upto greatest p all = record { most = λ k d within. p.most k d (omega arith) within; attained = p.attained }

-- the greatest radius in the components before a place
pub record IsWidestTo (nearby : List Nearby) (upto radius : ℕ) : Type 0 where
  pub most : (k : ℕ) (d : Nearby) → k < upto → k < length nearby → All (λ other. other ≤ radius) (get_or nearby k d).radii
  pub attained : 0 < radius → Any (λ near. Contains near.radii radius) nearby

pub widest_none : (nearby : List Nearby) → IsWidestTo nearby 0 0
widest_none nearby = record { most = λ k d before. absurd (omega arith); attained = λ above. absurd (omega arith) }

pub widest_more : (nearby : List Nearby) (upto radius value : ℕ) (near : Nearby) → IsWidestTo nearby upto radius → upto < length nearby
    → near ≡ get_or nearby upto near → IsGreatest near.radii value → IsWidestTo nearby (upto + 1) (max radius value)
widest_more nearby upto radius value near p within at q = record {
  most = λ k d before inside. elim (cases_lt k upto) [
    | inl early ↦ λ i e there. (let low = p.most k d early inside i e there in omega arith)
    | inr late ↦
        let same : k ≡ upto = omega arith in
        let here : get_or nearby k d ≡ near = subst (λ j. get_or nearby j d ≡ near) (sym same) (get_or_default nearby upto d near within ∙ sym at) in
        rw here (λ i e there. (let low = q.most i e there in omega arith))
  ];
  attained = λ above. elim (cases_lt radius value) [
    | inl new ↦
        let is : max radius value ≡ value = omega arith in
        rw is (upto, near, within, sym at, q.attained (omega arith))
    | inr old ↦
        let is : max radius value ≡ radius = omega arith in
        rw is (p.attained (omega arith))
  ];
}

pub widest_all : (nearby : List Nearby) (upto radius : ℕ) → IsWidestTo nearby upto radius → length nearby ≤ upto → IsWidest nearby radius
widest_all nearby upto radius p all = record { most = λ k d within. p.most k d (omega arith) within; attained = p.attained }
