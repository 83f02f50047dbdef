-- The law of pockets: a best path to the one gate stays in the pocket, so the gate is one at which all sources agree.
use Rattle.std.proofs.Common.{◌≡◌, ◌≢◌, ◌↔◌, Bool, true, List, [], ◌∷◌, ◌++◌, sym, ap, ◌∙◌, subst, inl, inr, refl}
use Rattle.std.proofs.lemmas.Bool.{cases_Bool}
use Rattle.root_cost.specs.Costs.{sum_of}
use Rattle.root_cost.proofs.Order.{at_most_itself}
use Rattle.root_cost.proofs.Adding.{at_most_sum_of, none_at_most}
use Rattle.moves.specs.declared.Cell.{Cell}
use Rattle.moves.specs.declared.Move.{Move}
use Rattle.moves.specs.Maps.{Map, IsPassable, is_cell}
use Rattle.moves.specs.Paths.{Leads, cost_of, IsBest, Reaches}
use Rattle.moves.specs.FirstSets.{IsFirstMove}
use Rattle.moves.proofs.Connected.{is_cell-same, is_cell-true}
use Rattle.moves.proofs.CostsOfPaths.{cost_of-append}
use Rattle.moves.proofs.LawsOfPaths.{leads_from}
use Rattle.moves.proofs.FirstMoves.{best_none}
use Rattle.kept_sources.specs.Parts.{IsPart, HaveSameFirst, HaveSameCost}
use Rattle.kept_sources.specs.Gates.{AgreesAt, IsPocket, IsInPocket, PocketsKeepSources}
use Rattle.kept_sources.proofs.Parting.{stays}
use Rattle.kept_sources.proofs.Rejoining.{IsMatched, best_pieces, best_in_part, same_first, same_cost}
use Rattle.kept_sources.proofs.Gating.{keeps_side, comes_to_gate}
use Rattle.kept_sources.proofs.Onward.{left_in_part}
use Rattle.kept_sources.proofs.OneGate.{one_gate_gives_the_rest}

module _ (map part : Map) (gate : Cell) (side : Cell → Bool) (is_part : IsPart map part) (pocket : IsPocket map part gate side) where
  -- ---- the gate itself

  stay_at_gate : (from : Cell) → from ≡ gate → IsPassable map from → Leads part from [] gate
  stay_at_gate from same free = (stays map part is_part from free (pocket.gates_stay from (is_cell-same gate from same)), same)

  -- each path from a cell of the pocket to its gate has one of the part that costs no more
  matched : (from : Cell) → IsInPocket gate side from → (moves : List Move) → Leads map from moves gate → IsMatched part from moves gate
  matched from (inr same) moves path =
      record { others = []; path = stay_at_gate from same (leads_from map from gate moves path); cheap = none_at_most (cost_of moves) }
  matched from (inl inside) [] path = record { others = []; path = stay_at_gate from path.1 path.0; cheap = at_most_itself (cost_of []) }
  matched from (inl inside) (move ∷ moves) path =
      let comes = comes_to_gate map part (is_cell gate) side is_part pocket from move moves gate inside path (λ _. is_cell-same gate gate refl) in
      let first = move ∷ comes.front in
      let whole : cost_of (move ∷ moves) ≡ sum_of (cost_of first) (cost_of comes.rest) =
      ap (λ ms. cost_of (move ∷ ms)) comes.whole ∙ cost_of-append first comes.rest in
      record {
        others = first;
        path = subst (Leads part from first) (is_cell-true gate comes.at comes.is_gate) comes.way_of_part;
        cheap = rw whole (at_most_sum_of (cost_of first) (cost_of comes.rest));
      }

  -- and a best path is one of the part
  best_stays : (from : Cell) → IsInPocket gate side from → (move : Move) (moves : List Move) → IsBest map from (move ∷ moves) gate
      → IsFirstMove part from gate move
  best_stays from (inr same) move moves best =
      let none : move ∷ moves ≡ [] = best_none map gate (move ∷ moves) (subst (λ c. IsBest map c (move ∷ moves) gate) same best) in
      absurd cc
  best_stays from (inl inside) move moves best =
      let comes = comes_to_gate map part (is_cell gate) side is_part pocket from move moves gate inside best.leads (λ _. is_cell-same gate gate refl) in
      let first = move ∷ comes.front in
      let here : comes.at ≡ gate = is_cell-true gate comes.at comes.is_gate in
      let whole : move ∷ moves ≡ first ++ comes.rest = ap (λ ms. move ∷ ms) comes.whole in
      let both = best_pieces map from comes.at gate first comes.rest (subst (λ ms. IsBest map from ms gate) whole best) comes.way comes.onward in
      let way = subst (IsBest map from first) here both.0 in
      inr (
        comes.front,
        best_in_part map part is_part from gate (matched from (inl inside)) first way first
            (subst (Leads part from first) here comes.way_of_part) (at_most_itself (cost_of first)),
      )

  at_gate : (from : Cell) → IsInPocket gate side from → AgreesAt map part (is_cell gate) from
  at_gate from inside = record {
    first = λ at there. subst (HaveSameFirst map part from) (sym (is_cell-true gate at there))
        (same_first map part is_part from gate (matched from inside) (best_stays from inside));
    cost = λ at there. subst (HaveSameCost map part from) (sym (is_cell-true gate at there)) (same_cost map part is_part from gate (matched from inside));
  }

  -- ---- the pocket

  pub in_pocket_first : (from to : Cell) → IsInPocket gate side from → IsInPocket gate side to → HaveSameFirst map part from to
  in_pocket_first from to inside (inl within) = (keeps_side map part (is_cell gate) side is_part pocket from (at_gate from inside)).first to within
  in_pocket_first from to inside (inr same) = (at_gate from inside).first to (is_cell-same gate to same)

  pub in_pocket_cost : (from to : Cell) → IsInPocket gate side from → IsInPocket gate side to → HaveSameCost map part from to
  in_pocket_cost from to inside (inl within) = (keeps_side map part (is_cell gate) side is_part pocket from (at_gate from inside)).cost to within
  in_pocket_cost from to inside (inr same) = (at_gate from inside).cost to (is_cell-same gate to same)

  -- ---- beyond it

  in_both : (from to : Cell) → side from ≡ true → from ≢ gate → Reaches map gate to ↔ Reaches part gate to → HaveSameFirst map part from to
  in_both from to inside apart reached = elim (cases_Bool (side to)) [
    | inl within ↦ in_pocket_first from to (inl inside) (inl within)
    | inr out ↦
        let on_map = one_gate_gives_the_rest map gate side from to pocket.closed inside apart out in
        let in_part = one_gate_gives_the_rest part gate side from to (left_in_part map part (is_cell gate) side is_part pocket.closed) inside apart out in
        let known = in_pocket_first from gate (inl inside) (inr refl) in
        λ move. (
          λ begun. let h = (on_map.first move).0 begun in (in_part.first move).1 (reached.0 h.0, (known move).0 h.1),
          λ begun. let h = (in_part.first move).0 begun in (on_map.first move).1 (reached.1 h.0, (known move).1 h.1),
        )
  ]

pub pockets_keep_sources : PocketsKeepSources
pockets_keep_sources map part gate side is_part pocket = record {
  first = in_pocket_first map part gate side is_part pocket;
  cost = in_pocket_cost map part gate side is_part pocket;
  beyond = in_both map part gate side is_part pocket;
}
