-- The ranks of cells are pushed.
use Rattle.std.proofs.Common.{◌≡◌, ℕ, ◌+◌, ◌<◌, Bool, false, List, [], ◌∷◌, ◌++◌, length, get_or, map, take, refl, sym, ap, ◌∙◌, subst, inl, inr, arith}
use Rattle.std.specs.List.{All, Contains}
use Rattle.std.proofs.lemmas.Bool.{cases_lt}
use Rattle.std.proofs.lemmas.List.{length-map, get_or-map}
use Rattle.std.proofs.lemmas.List.Elements.{All-push, All-append, Contains-push, Contains-append_left, Contains-append_right, Contains-get_or}
use Rattle.moves.specs.declared.Cell.{Cell}
use Rattle.moves.specs.Maps.{Map, IsInside, IsPassable}
use Rattle.moves.specs.Components.{first_of}
use Rattle.components.specs.Groups.{IsLabelOf}
use Rattle.components.specs.Edits.{IsTouched, rank_of, AreRanks, AreFormerRanks}
use Rattle.components.proofs.Below.{AllBelow, all_below_none, all_below_more, all_below_contained}

contains_map : {X Y : Type 0} (f : X → Y) (xs : List X) (x : X) → Contains xs x → Contains (map f xs) (f x)
contains_map f xs x has =
    let less = has.1 in
    (has.0, let l = length-map xs f in omega arith, get_or-map f xs has.0 x (f x) less ∙ ap f has.2)

-- the first of some cells
pub first_in : (xs ys : List Cell) → 0 < length ys → xs ≡ take 1 ys → Contains xs (first_of ys)
first_in xs [] some is = absurd (omega arith)
first_in xs (y ∷ ys) some is = subst (λ zs. Contains zs y) (sym is) (0, omega arith, refl)

pub first_within : (xs ys : List Cell) → 0 < length ys → xs ≡ take 1 ys → (c : Cell) → Contains xs c → Contains ys c
first_within xs [] some is c has = absurd (omega arith)
first_within xs (y ∷ ys) some is c has =
    let h : Contains (y ∷ []) c = subst (λ zs. Contains zs c) is has in
    let k = h.1 in
    let zero_index : h.0 ≡ 0 = omega arith in
    (0, omega arith, ap (λ n. get_or (y ∷ []) n c) (sym zero_index) ∙ h.2)

pub former_none : (components : List (List Cell)) (touched : List Bool) → AreFormerRanks components touched 0 []
former_none components touched = record {
  of_kept = λ label less free. absurd (omega arith);
  known = λ k d less. absurd (omega arith);
  of_touched = λ label c less is has. absurd (omega arith);
}

module _ (components : List (List Cell)) (touched : List Bool) (n : ℕ) (ranks : List ℕ) (p : AreFormerRanks components touched n ranks) (low : n < length components) (part : List Cell)
    (within : (c : Cell) → Contains part c → Contains (get_or components n []) c)
    (first : get_or touched n false ≡ false → Contains part (first_of (get_or components n [])))
    (whole : IsTouched touched n → (c : Cell) → Contains (get_or components n []) c → Contains part c) where
  IsKnown : ℕ → Type 0
  IsKnown rank = (cell : Cell) × (label : ℕ) × IsLabelOf components cell label × (rank ≡ rank_of cell)

  new_known : All IsKnown (map rank_of part)
  unfolding IsKnown
  new_known = λ k d less.
      let l = length-map part rank_of in
      let c : Cell = get_or part k (record { x = 0; y = 0 }) in
      (c, n, record { below = low; has = within c (Contains-get_or part k (record { x = 0; y = 0 }) (omega arith)) }, get_or-map rank_of part k (record { x = 0; y = 0 }) d (omega arith))

  later : (rank : ℕ) → Contains ranks rank → Contains (ranks ++ map rank_of part) rank
  later rank has = Contains-append_left ranks (map rank_of part) rank has

  now : (c : Cell) → Contains part c → Contains (ranks ++ map rank_of part) (rank_of c)
  now c has = Contains-append_right ranks (map rank_of part) (rank_of c) (contains_map rank_of part c has)

  pub former_more : AreFormerRanks components touched (n + 1) (ranks ++ map rank_of part)
  unfolding IsKnown
  former_more = record {
    of_kept = λ label less free.
        elim (cases_lt label n) [
          | inl earlier ↦ later (rank_of (first_of (get_or components label []))) (p.of_kept label earlier free)
          | inr last ↦
              let e : n ≡ label = omega arith in
              let free_now : get_or touched n false ≡ false = ap (λ k. get_or touched k false) e ∙ free in
              subst (λ k. Contains (ranks ++ map rank_of part) (rank_of (first_of (get_or components k [])))) e (now (first_of (get_or components n [])) (first free_now))
        ];
    known = All-append IsKnown ranks (map rank_of part) p.known new_known;
    of_touched = λ label c less is has.
        elim (cases_lt label n) [
          | inl earlier ↦ later (rank_of c) (p.of_touched label c earlier is has)
          | inr last ↦
              let e : label ≡ n = omega arith in
              now c (whole (ap (λ k. get_or touched k false) (sym e) ∙ is) c (subst (λ k. Contains (get_or components k []) c) e has))
        ];
  }

-- what the loop over passable cells keeps
pub record IsPushing (map : Map) (cells : List Cell) (i : ℕ) (old ranks : List ℕ) : Type 0 where
  pub kept : (rank : ℕ) → Contains old rank → Contains ranks rank
  pub more : AllBelow (λ c. IsPassable map c → Contains ranks (rank_of c)) cells i
  pub inside : AreRanks map old → AreRanks map ranks

module _ (map : Map) (cells : List Cell) where
  pub pushing_start : (ranks : List ℕ) → IsPushing map cells 0 ranks ranks
  pushing_start ranks = record {
    kept = λ rank has. has;
    more = all_below_none (λ c. IsPassable map c → Contains ranks (rank_of c)) cells;
    inside = λ all. all;
  }

  module _ (i : ℕ) (old ranks : List ℕ) (p : IsPushing map cells i old ranks) (y : Cell) (within : i < length cells) (at : y ≡ get_or cells i y) where
    pub pushing_skip : (IsPassable map y → ⊥) → IsPushing map cells (i + 1) old ranks
    pushing_skip blocked = record {
      kept = p.kept;
      more =
          let IsPushed : Cell → Type 0 = λ c. IsPassable map c → Contains ranks (rank_of c) in
          all_below_more IsPushed IsPushed cells i y within at p.more (λ c h. h) (λ free. absurd (blocked free));
      inside = p.inside;
    }

    pub pushing_more : IsPassable map y → (rank : ℕ) → rank ≡ rank_of y → IsPushing map cells (i + 1) old (ranks ++ rank ∷ [])
    pushing_more free rank is = record {
      kept = λ r has. Contains-append_left ranks (rank ∷ []) r (p.kept r has);
      more = all_below_more (λ c. IsPassable map c → Contains ranks (rank_of c)) (λ c. IsPassable map c → Contains (ranks ++ rank ∷ []) (rank_of c)) cells i y within at p.more
          (λ c h pass. Contains-append_left ranks (rank ∷ []) (rank_of c) (h pass)) (λ pass. subst (Contains (ranks ++ rank ∷ [])) is (Contains-push ranks rank));
      inside = λ all. All-push (λ r. (cell : Cell) × IsInside map cell × (r ≡ rank_of cell)) ranks rank (p.inside all) (y, free.inside, is);
    }

  pub pushed_all : (i : ℕ) (old ranks : List ℕ) → length cells ≡ i → IsPushing map cells i old ranks → (c : Cell) → Contains cells c → IsPassable map c → Contains ranks (rank_of c)
  pushed_all i old ranks all p c has = all_below_contained (λ d. IsPassable map d → Contains ranks (rank_of d)) cells i all p.more c has
