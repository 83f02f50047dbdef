-- The law of one gate: where all that leads on goes by one cell, it is the best gate.
use Rattle.std.proofs.Common.{◌≡◌, ◌≢◌, false, Some, refl, sym, ap, ◌∙◌, subst, inl, inr}
use Rattle.std.proofs.lemmas.Bool.{cases_Bool}
use Rattle.root_cost.specs.declared.Cost.{Cost}
use Rattle.root_cost.specs.Costs.{sum_of}
use Rattle.root_cost.proofs.Order.{at_most_same}
use Rattle.moves.specs.declared.Cell.{Cell}
use Rattle.moves.specs.Maps.{Map, is_cell}
use Rattle.moves.specs.Paths.{Reaches}
use Rattle.moves.specs.FirstSets.{IsFirstMove}
use Rattle.moves.proofs.BestPaths.{first_move_exists}
use Rattle.moves.proofs.Connected.{is_cell-same, is_cell-true}
use Rattle.moves.proofs.LeastCosts.{same_least}
use Rattle.moves.proofs.TableLaws.{one_some}
use Rattle.kept_sources.specs.Gates.{CostsBy, IsBestGate, IsGivenByGates, IsGivenByOne, OneGateGivesTheRest}
use Rattle.kept_sources.proofs.Onward.{given_by_gates, least_of_reached}

pub is_cell-false : (a b : Cell) → b ≢ a → is_cell a b ≡ false
is_cell-false a b apart = elim (cases_Bool (is_cell a b)) [ inl same ↦ absurd (apart (is_cell-true a b same)) | inr none ↦ none ]

-- it costs one amount to go by a cell
pub one_cost_by : (map : Map) (from by to : Cell) (cost more : Cost) → CostsBy map map from by to cost → CostsBy map map from by to more → cost ≡ more
one_cost_by map from by to cost more (there, onward, way, rest, sum) (there', onward', way', rest', sum') =
    let first : there ≡ there' = one_some there there' (same_least map from by (Some there) (Some there') way way') in
    let next : onward ≡ onward' = one_some onward onward' (same_least map by to (Some onward) (Some onward') rest rest') in
    sum ∙ ap (λ c. sum_of c onward) first ∙ ap (sum_of there') next ∙ sym sum'

-- the only gate is the best one
only_gate : (map : Map) (gate from to : Cell) (cost : Cost) → CostsBy map map from gate to cost → IsBestGate map map (is_cell gate) from to gate cost
only_gate map gate from to cost costs = record {
  is_gate = is_cell-same gate gate refl;
  costs = costs;
  least = λ other more there by.
      let by_gate = subst (λ c. CostsBy map map from c to more) (is_cell-true gate other there) by in
      at_most_same cost more (one_cost_by map from gate to cost more costs by_gate);
}

pub given_by_one : (map : Map) (gate from to : Cell) → IsGivenByGates map map (is_cell gate) from to → IsGivenByOne map gate from to
given_by_one map gate from to given = record {
  first = λ move. (
    λ begun.
        let (by, cost, gated, first) = (given.first move).0 begun in
        let here = is_cell-true gate by gated.is_gate in
        let rest = gated.costs.3 in
        (subst (λ c. Reaches map c to) here (rest.0, rest.1.leads), subst (λ c. IsFirstMove map from c move) here first),
    λ (reached, first).
        let (there, way) = least_of_reached map from gate ((first_move_exists map from gate).1 (move, first)) in
        let (onward, rest) = least_of_reached map gate to reached in
        let cost = sum_of there onward in
        (given.first move).1 (gate, cost, only_gate map gate from to cost (there, onward, way, rest, refl), first),
  );
  cost = λ cost. (
    λ known.
        let (by, gated) = (given.cost cost).0 known in
        subst (λ c. CostsBy map map from c to cost) (is_cell-true gate by gated.is_gate) gated.costs,
    λ costs. (given.cost cost).1 (gate, only_gate map gate from to cost costs),
  );
}

pub one_gate_gives_the_rest : OneGateGivesTheRest
one_gate_gives_the_rest map gate side from to closed inside apart out =
    given_by_one map gate from to (given_by_gates map (is_cell gate) side closed from to inside out (is_cell-false gate from apart))
