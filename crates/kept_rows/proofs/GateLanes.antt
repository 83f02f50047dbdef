-- Gates by lanes: the keys of the ways to them and on from them tell by which gates it costs the least to go.
use Rattle.std.proofs.Common.{◌≡◌, ℕ, ◌+◌, ◌<◌, ◌≤◌, ◌↔◌, List, slice_index, Some, refl, sym, ap, subst, ◌∙◌, arith}
use Rattle.root_cost.specs.declared.Cost.{Cost}
use Rattle.root_cost.specs.Costs.{IsAtMost, sum_of}
use Rattle.root_cost.specs.Keys.{key_of, cost_of_key}
use Rattle.root_cost.proofs.Keys.{key_if_at_most, at_most_if_key, few_diagonals}
use Rattle.root_cost.proofs.Adding.{key_of-sum_of}
use Rattle.moves.specs.declared.Cell.{Cell}
use Rattle.moves.specs.declared.Move.{Move}
use Rattle.moves.specs.Maps.{Map}
use Rattle.moves.specs.MoveSets.{Has}
use Rattle.moves.specs.Paths.{IsLeastCost}
use Rattle.moves.specs.FirstSets.{IsFirstMove}
use Rattle.moves.proofs.LeastCosts.{same_least}
use Rattle.kept_sources.specs.Gates.{CostsBy, IsBestGate, IsGivenByGates}
use Rattle.kept_rows.specs.Gates.{IsLeastLane, IsByLeast, IsEvenlyMore}
use Rattle.kept_rows.proofs.Balls.{among, among-true, among-from}

-- the least cost from the one cell to the other has this key, which is not above so much
pub record IsKeyOf (map : Map) (from to : Cell) (key most : ℕ) : Type 0 where
  pub cost : IsLeastCost map from to (Some (cost_of_key key))
  pub keyed : key_of (cost_of_key key) ≡ key
  pub low : key ≤ most

-- ---- by which gates it costs the least to go

module _ (near far : Map) (source to : Cell) (gates : ℕ → Cell) (there onward : List ℕ)
    (ways : (lane : ℕ) → lane < 15 → IsKeyOf near source (gates lane) (slice_index there lane) 791680330)
    (rests : (lane : ℕ) → lane < 15 → IsKeyOf far (gates lane) to (slice_index onward lane) 791680330) where
  -- what it costs to go by the gate of a lane
  sum_by : ℕ → Cost
  sum_by lane = sum_of (cost_of_key (slice_index there lane)) (cost_of_key (slice_index onward lane))

  key_by : (lane : ℕ) → lane < 15 → key_of (sum_by lane) ≡ slice_index there lane + slice_index onward lane
  unfolding sum_by
  key_by lane l =
      key_of-sum_of (cost_of_key (slice_index there lane)) (cost_of_key (slice_index onward lane))
      ∙ ap (λ k. k + key_of (cost_of_key (slice_index onward lane))) (ways lane l).keyed ∙ ap (λ k. slice_index there lane + k) (rests lane l).keyed

  few : (lane : ℕ) → lane < 15 → (sum_by lane).diagonal < 33461
  few lane l = few_diagonals (sum_by lane) (omega (arith, key_by lane l, (ways lane l).low, (rests lane l).low))

  costs_by : (lane : ℕ) → lane < 15 → CostsBy near far source (gates lane) to (sum_by lane)
  unfolding sum_by
  costs_by lane l = (cost_of_key (slice_index there lane), cost_of_key (slice_index onward lane), (ways lane l).cost, (rests lane l).cost, refl)

  -- and nothing else
  only_by : (lane : ℕ) → lane < 15 → (cost : Cost) → CostsBy near far source (gates lane) to cost → cost ≡ sum_by lane
  unfolding sum_by
  only_by lane l cost (t, o, way, rest, sum) =
      let same_way : Some t ≡ Some (cost_of_key (slice_index there lane)) = same_least near source (gates lane) _ _ way (ways lane l).cost in
      let same_rest : Some o ≡ Some (cost_of_key (slice_index onward lane)) = same_least far (gates lane) to _ _ rest (rests lane l).cost in
      let t_is : t ≡ cost_of_key (slice_index there lane) = cc in
      let o_is : o ≡ cost_of_key (slice_index onward lane) = cc in
      sum ∙ ap (λ c. sum_of c o) t_is ∙ ap (sum_of (cost_of_key (slice_index there lane))) o_is

  best_of_lane : (lane : ℕ) → IsLeastLane there onward lane → IsBestGate near far (among gates 15) source to (gates lane) (sum_by lane)
  best_of_lane lane is = record {
    is_gate = among-from gates 15 (gates lane) lane is.early refl;
    costs = costs_by lane is.early;
    least = λ other more is_gate costs.
        let (k, l, same) = among-true gates 15 other is_gate in
        let more_is : more ≡ sum_by k = only_by k l more (subst (λ c. CostsBy near far source c to more) (sym same) costs) in
        subst (IsAtMost (sum_by lane)) (sym more_is)
        (at_most_if_key (sum_by lane) (sum_by k) (few lane is.early) (few k l) (omega (arith, key_by lane is.early, key_by k l, is.least k l)));
  }

  lane_of_best : (by : Cell) (cost : Cost) → IsBestGate near far (among gates 15) source to by cost → (lane : ℕ) × (gates lane ≡ by) × IsLeastLane there onward lane
  lane_of_best by cost best =
      let (k, l, same) = among-true gates 15 by best.is_gate in
      let cost_is : cost ≡ sum_by k = only_by k l cost (subst (λ c. CostsBy near far source c to cost) (sym same) best.costs) in (
        k,
        same,
        record {
          early = l;
          least = λ other m.
              let most : IsAtMost (sum_by k) (sum_by other) = subst (λ c. IsAtMost c (sum_by other)) cost_is (best.least (gates other) (sum_by other) (among-from gates 15 (gates other) other m refl) (costs_by other m)) in
              let keys = key_if_at_most (sum_by k) (sum_by other) (few k l) (few other m) most in
              omega (arith, key_by k l, key_by other m, keys);
        },
      )

  -- so the first set is that of the best lanes
  pub by_least_lanes : (sets : List ℕ) → ((lane : ℕ) → lane < 15 → (move : Move) → Has (slice_index sets lane) move ↔ IsFirstMove near source (gates lane) move)
      → IsGivenByGates near far (among gates 15) source to → (move : Move) → IsFirstMove far source to move ↔ IsByLeast there onward sets move
  by_least_lanes sets first given move = (
    λ h.
        let (by, cost, best, begun) = (given.first move).0 h in
        let (lane, same, least) = lane_of_best by cost best in
        (lane, least, (first lane least.early move).1 (subst (λ c. IsFirstMove near source c move) (sym same) begun)),
    λ h. (given.first move).1 (gates h.0, sum_by h.0, best_of_lane h.0 h.1, (first h.0 h.1.early move).0 h.2),
  )

-- ---- an amount more in all lanes makes no other lane the least

module _ (there more less : List ℕ) (even : IsEvenlyMore more less) where
  least_if_more : (lane : ℕ) → IsLeastLane there more lane → IsLeastLane there less lane
  least_if_more lane is = record {
    early = is.early;
    least = λ other l. omega (arith, is.least other l, even.each lane is.early, even.each other l);
  }

  more_if_least : (lane : ℕ) → IsLeastLane there less lane → IsLeastLane there more lane
  more_if_least lane is = record {
    early = is.early;
    least = λ other l. omega (arith, is.least other l, even.each lane is.early, even.each other l);
  }

  pub by_least_evenly : (sets : List ℕ) (move : Move) → IsByLeast there more sets move ↔ IsByLeast there less sets move
  by_least_evenly sets move = (λ h. (h.0, least_if_more h.0 h.1, h.2), λ h. (h.0, more_if_least h.0 h.1, h.2))
