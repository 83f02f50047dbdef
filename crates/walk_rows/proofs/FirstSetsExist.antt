-- The first set of two cells that a path joins can be decided, move by move, and so it exists as a byte.
use Rattle.std.proofs.Common.{◌≡◌, ℕ, zero, suc, ◌+◌, ◌*◌, ◌%◌, ◌^◌, ◌<◌, ◌≤◌, ◌⊎◌, ◌↔◌, List, [], ◌∷◌, ◌++◌, length, slice_index, take, refl, sym, ap, subst, ◌∙◌, inl, inr, arith}
use Rattle.std.specs.Prelude.{bit_or}
use Rattle.std.proofs.lemmas.Bool.{cases_eq, cases_lt}
use Rattle.std.proofs.lemmas.List.{get_or_append_left, get_or_push, length-take-le, length_push, take_all, take_more}
use Rattle.std.proofs.lemmas.List.Elements.{All-push}
use Rattle.root_cost.specs.declared.Cost.{Cost}
use Rattle.root_cost.specs.Costs.{IsAtMost, plus_step}
use Rattle.moves.specs.declared.Cell.{Cell}
use Rattle.moves.specs.declared.Move.{Move}
use Rattle.moves.specs.Maps.{Map}
use Rattle.moves.specs.Moves.{is_diagonal, opposite, IsTarget, IsLegal}
use Rattle.moves.specs.Paths.{Reaches, cost_of, IsBest}
use Rattle.moves.specs.MoveSets.{Has}
use Rattle.moves.specs.FirstSets.{IsFirstMove}
use Rattle.moves.specs.FirstSetLists.{cell_of, AreFirstSets}
use Rattle.moves.proofs.BestPaths.{best_path_exists, legal_or_not}
use Rattle.moves.proofs.CostsOfPaths.{cost_of-cons}
use Rattle.moves.proofs.LawsOfPaths.{best_parts, leads_from, same_cost_of_best}
use Rattle.moves.proofs.Masks.{MaskBelow, mask_none, mask_yes, mask_no, mask_done}
use Rattle.moves.proofs.MoveLaws.{legal_back, same_move, same_target}
use Rattle.moves.proofs.MovesInSets.{Has-bit_set, move_with}
use Rattle.moves.proofs.TableLaws.{same_or_apart}
use Rattle.walk_rows.proofs.TightRows.{byte_from_bits}

abbrev Decided : Type 0 → Type 0
Decided P = P ⊎ (P → ⊥)

same_cost_or_not : (a b : Cost) → Decided (a ≡ b)
same_cost_or_not a b = elim (cases_eq a.straight b.straight) [
  | inr other ↦ inr (λ same. other (ap (λ c. c.straight) same))
  | inl straight ↦ elim (cases_eq a.diagonal b.diagonal) [
    | inr other ↦ inr (λ same. other (ap (λ c. c.diagonal) same))
    | inl diagonal ↦ inl (λ i. record { straight = straight i; diagonal = diagonal i })
  ]
]

module _ (map : Map) (from to : Cell) (reach : Reaches map from to) where
  -- a legal move begins a best path where one from its end costs a step less
  by_legal : (move : Move) (next : Cell) → IsLegal map from move next → (from ≡ to → ⊥) → Decided (IsFirstMove map from to move)
  by_legal move next legal apart =
      let best = best_path_exists map from to reach in
      let on : Reaches map next to = (opposite move ∷ reach.0, (from, legal_back map from move next legal, reach.1)) in
      let rest = best_path_exists map next to on in
      elim (same_cost_or_not (cost_of (move ∷ rest.0)) (cost_of best.0)) [
        | inl same ↦ inl (inr (
          rest.0,
          record { leads = (next, legal, rest.1.leads); least = λ others path. subst (λ c. IsAtMost c (cost_of others)) (sym same) (best.1.least others path) },
        ))
        | inr other ↦ inr (λ first. elim first [
          | inl here ↦ apart here.0
          | inr way ↦
              let parts = best_parts map from to (move ∷ []) way.0 way.1 in
              let step = parts.1.leads in
              let target : IsTarget from move parts.0 = subst (λ c. IsTarget from move c) step.2.1 step.1.target in
              let there : parts.0 ≡ next = same_target from move parts.0 next target legal.target in
              let cheap : cost_of way.0 ≡ cost_of rest.0 = same_cost_of_best map next to way.0 rest.0 (subst (λ c. IsBest map c way.0 to) there parts.2) rest.1 in
              other (cost_of-cons move rest.0 ∙ ap (λ c. plus_step c (is_diagonal move)) (sym cheap) ∙ sym (cost_of-cons move way.0) ∙ same_cost_of_best map from to (move ∷ way.0) best.0 way.1 best.1)
        ])
      ]

  first_or_not : (move : Move) → Decided (IsFirstMove map from to move)
  first_or_not move = elim (same_or_apart from to) [
    | inl same ↦ inl (inl (same, leads_from map from to reach.0 reach.1))
    | inr apart ↦ elim (legal_or_not map from move) [
      | inl (next, legal) ↦ by_legal move next legal apart
      | inr none ↦ inr (λ first. elim first [
        | inl here ↦ apart here.0
        | inr way ↦ none way.1.leads.0 way.1.leads.1
      ])
    ]
  ]

  mask_upto : (n : ℕ) → n ≤ 8 → (mask : ℕ) × MaskBelow (IsFirstMove map from to) n mask
  mask_upto zero few = (0, mask_none (IsFirstMove map from to))
  mask_upto (suc n) few =
      let before = mask_upto n (omega arith) in
      let m = move_with n (omega arith) in
      let next : n + 1 ≡ suc n = omega arith in
      let more : ℕ = bit_or before.0 (1 * 2 ^ n % 2 ^ 8) in
      elim (first_or_not m.0) [
        | inl has ↦ (
          more,
          subst (λ k. MaskBelow (IsFirstMove map from to) k more) next
              (mask_yes (IsFirstMove map from to) n before.0 (omega arith) before.1 (λ move same. subst (IsFirstMove map from to) (same_move m.0 move (m.1 ∙ sym same)) has)),
        )
        | inr none ↦ (
          before.0,
          subst (λ k. MaskBelow (IsFirstMove map from to) k before.0) next
              (mask_no (IsFirstMove map from to) n before.0 before.1 (λ move same has. none (subst (IsFirstMove map from to) (same_move move m.0 (same ∙ sym m.1)) has))),
        )
      ]

  pub first_set_exists : (set : ℕ) × (set < 256) × ((move : Move) → Has set move ↔ IsFirstMove map from to move)
  first_set_exists =
      let mask = mask_upto 8 (omega arith) in (
        mask.0,
        byte_from_bits mask.0 mask.1.clear,
        λ move.
            (let bits = Has-bit_set mask.0 move in
            let done = mask_done (IsFirstMove map from to) 8 mask.0 (omega arith) (omega arith) mask.1 move in
            (λ has. done.0 (bits.0 has), λ first. bits.1 (done.1 first))),
      )

-- the first sets to no cells, and to one cell more
sets_none : (map : Map) (from : Cell) (cells : List Cell) → AreFirstSets map from (take 0 cells) []
sets_none map from cells = record { whole = refl; bytes = λ k d within. absurd (omega arith); each = λ place within. absurd (omega arith) }

sets_more : (map : Map) (from : Cell) (cells : List Cell) (sets : List ℕ) (upto value : ℕ) → AreFirstSets map from (take upto cells) sets → upto < length cells → value < 256
    → ((move : Move) → Has value move ↔ IsFirstMove map from (cell_of cells upto) move) → AreFirstSets map from (take (upto + 1) cells) (sets ++ value ∷ [])
sets_more map from cells sets upto value p less byte first =
    let corner : Cell = record { x = 0; y = 0 } in
    let more : take (upto + 1) cells ≡ take upto cells ++ cell_of cells upto ∷ [] = take_more cells upto corner less in
    let short : length (take upto cells) ≡ upto = length-take-le upto cells (omega arith) in
    let long : length sets ≡ upto = p.whole ∙ short in
    let next : List Cell = take upto cells ++ cell_of cells upto ∷ [] in
    rw more (record {
      whole = omega (arith, length_push sets value, length_push (take upto cells) (cell_of cells upto), p.whole);
      bytes = All-push (λ s. s < 256) sets value p.bytes byte;
      each = λ place within move.
          elim (cases_lt place upto) [
            | inl early ↦
                let cell : cell_of next place ≡ cell_of (take upto cells) place = get_or_append_left (take upto cells) (cell_of cells upto ∷ []) corner place (omega arith) in
                let set_is : slice_index (sets ++ value ∷ []) place ≡ slice_index sets place = get_or_append_left sets (value ∷ []) 0 place (omega arith) in
                rw (cell, set_is) (p.each place (omega arith) move)
            | inr late ↦
                let same : upto ≡ place = omega (arith, length_push (take upto cells) (cell_of cells upto)) in
                let cell : cell_of next place ≡ cell_of cells upto = get_or_push (take upto cells) (cell_of cells upto) corner place (short ∙ same) in
                let set_is : slice_index (sets ++ value ∷ []) place ≡ value = get_or_push sets value 0 place (long ∙ same) in
                rw (cell, set_is) (first move)
          ];
    })

module _ (map : Map) (from : Cell) (cells : List Cell) (reach : (place : ℕ) → place < length cells → Reaches map from (cell_of cells place)) where
  sets_upto : (upto : ℕ) → upto ≤ length cells → (sets : List ℕ) × AreFirstSets map from (take upto cells) sets
  sets_upto zero few = ([], sets_none map from cells)
  sets_upto (suc upto) few =
      let before = sets_upto upto (omega arith) in
      let less : upto < length cells = omega arith in
      let set = first_set_exists map from (cell_of cells upto) (reach upto less) in
      let next : upto + 1 ≡ suc upto = omega arith in (
        before.0 ++ set.0 ∷ [],
        subst (λ k. AreFirstSets map from (take k cells) (before.0 ++ set.0 ∷ [])) next (sets_more map from cells before.0 upto set.0 before.1 less set.1 set.2),
      )

  -- the first sets to cells that are all reached
  pub first_sets_exist : (sets : List ℕ) × AreFirstSets map from cells sets
  first_sets_exist =
      let all = sets_upto (length cells) (omega arith) in
      (all.0, subst (λ cs. AreFirstSets map from cs all.0) (take_all (length cells) cells (omega arith)) all.1)
