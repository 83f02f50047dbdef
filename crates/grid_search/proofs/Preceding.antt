-- In the order of a search a cell stands behind those from which a step attains its cost.
use Rattle.std.proofs.Common.{◌≡◌, ℕ, ◌<◌, Bool, Option, Some, None, IsSome, length, get_or, refl, sym, ap, ◌∙◌, subst, inl, inr, arith}
use Rattle.std.proofs.lemmas.Bool.{cases_lt}
use Rattle.std.proofs.lemmas.List.{get_or_default}
use Rattle.root_cost.specs.declared.Cost.{Cost}
use Rattle.root_cost.specs.Costs.{IsAtMost, plus_step}
use Rattle.root_cost.proofs.Order.{at_most_itself}
use Rattle.root_cost.proofs.Adding.{step_not_at_most}
use Rattle.moves.specs.declared.Cell.{Cell}
use Rattle.moves.specs.Maps.{Map, IsInside}
use Rattle.moves.proofs.TableLaws.{one_some}
use Rattle.grid_search.specs.Searches.{Searched, HasSearched, HasCost, cost_at, IsNoDearer}

-- an option that is not empty has a value
pub some_of : (option : Option Cost) → IsSome option → (cost : Cost) × (option ≡ Some cost)
some_of None h = cc
some_of (Some cost) h = (cost, refl)

-- where both cells have a cost, that of the first is at most that of the second
no_dearer_costs : (search : Searched) (a b : Cell) (x y : Cost) → cost_at search a ≡ Some x → cost_at search b ≡ Some y → IsNoDearer search a b → IsAtMost x y
no_dearer_costs search a b x y e f h = rw (e, f) at h

module _ (map : Map) (source : Cell) (search : Searched) (done : HasSearched map source search) where
  -- where a step leads from the cost of a to that of b, b at place j: a stands at an earlier place
  pub stands_before : (a b : Cell) (before cost : Cost) (diagonal : Bool) (j : ℕ) → IsInside map a → j < length search.settled → get_or search.settled j b ≡ b
      → cost_at search a ≡ Some before → cost_at search b ≡ Some cost → cost ≡ plus_step before diagonal → (i : ℕ) × (i < j) × (get_or search.settled i a ≡ a)
  stands_before a b before cost diagonal j inside within here e f step =
      let has : HasCost search a = record { column = rw done.width inside.column; row = rw done.height inside.row; cost = rw e refl } in
      let (i, below, there) = done.order.all a has in
      elim (cases_lt i j) [
        | inl earlier ↦ (i, earlier, there)
        | inr later ↦ elim (cases_lt j i) [
          | inl after ↦
              let low = done.order.rising j i b after below in
              let read : get_or search.settled i b ≡ a = get_or_default search.settled i b a below ∙ there in
              let low_at : IsNoDearer search b a = rw (here, read) at low in
              absurd (step_not_at_most before diagonal (subst (λ c. IsAtMost c before) step (no_dearer_costs search b a cost before f e low_at)))
          | inr level ↦
              let at : i ≡ j = omega arith in
              let same : a ≡ b = sym there ∙ ap (λ k. get_or search.settled k a) at ∙ get_or_default search.settled j a b within ∙ here in
              let equal : before ≡ cost = one_some before cost (sym e ∙ ap (cost_at search) same ∙ f) in
              absurd (step_not_at_most before diagonal (subst (λ c. IsAtMost c before) (equal ∙ step) (at_most_itself before)))
        ]
      ]
