-- Where the costs to the goal leave one move by which a best path may go on, that is the move that is kept.
use Rattle.std.proofs.Common.{◌≡◌, ◌≢◌, ℕ, ◌+◌, ◌*◌, ◌<◌, List, [], ◌∷◌, length, None, Some, refl, sym, ap, subst, ◌∙◌, Contains, arith}
use Rattle.std.specs.Prelude.{slice_index_or}
use Rattle.std.proofs.lemmas.List.{get_or-map}
use Rattle.root_cost.specs.declared.Cost.{Cost}
use Rattle.root_cost.specs.declared.TheConstants.{NO_KEY}
use Rattle.root_cost.specs.Costs.{key_of}
use Rattle.root_cost.proofs.Adding.{key_of-plus_step}
use Rattle.run_pack.specs.declared.Run.{Run}
use Rattle.moves.specs.declared.Cell.{Cell}
use Rattle.moves.specs.declared.Move.{Move}
use Rattle.moves.specs.Maps.{Map, IsInside, place_of}
use Rattle.moves.specs.Moves.{is_diagonal, IsLegal}
use Rattle.moves.specs.Paths.{Reaches, cost_of, IsBest, IsLeastCost}
use Rattle.moves.proofs.BestPaths.{best_path_exists}
use Rattle.moves.proofs.ComponentLaws.{components_keep_best_paths}
use Rattle.moves.proofs.CostsOfPaths.{cost_of-cons}
use Rattle.moves.proofs.LawsOfPaths.{best_parts, leads_from}
use Rattle.moves.proofs.LeastCosts.{least_back, same_least}
use Rattle.moves.proofs.RowMajor.{place_inside}
use Rattle.grid_search.specs.Keys.{key_at, move_key}
use Rattle.grid_search.specs.Searches.{Searched, HasSearched, cost_at, key_or_none, keys_of}
use Rattle.row_store.specs.Rows.{AreRows}
use Rattle.versions.specs.Spelled.{IsKept}
use Rattle.versions.proofs.Walking.{kept_is_first, some_kept}
use Rattle.walk_rows.specs.declared.along.Route.{Route}
use Rattle.walk_rows.specs.Walks.{CanBeWalked, ComesDown, IsAlone, IsHome, IsKeptOver}
use Rattle.walk_rows.proofs.Existing.{rows_exist}
use Rattle.walk_rows.proofs.Home.{among, back, goal_among, in_component, just_component}

-- where a legal move leads, from which a path goes on
pub record LeadsOn (map : Map) (goal from : Cell) (move : Move) : Type 0 where
  pub next : Cell
  pub legal : IsLegal map from move next
  pub ahead : Reaches map next goal

-- the first move of a best path, and what is best from there
pub record Begins (map : Map) (goal from : Cell) (move : Move) (rest : List Move) : Type 0 where
  pub next : Cell
  pub legal : IsLegal map from move next
  pub best : IsBest map next rest goal

pub begins : (map : Map) (goal from : Cell) (move : Move) (rest : List Move) → IsBest map from (move ∷ rest) goal → Begins map goal from move rest
begins map goal from move rest best =
    let parts = best_parts map from goal (move ∷ []) rest best in
    let step = parts.1.leads in
    record { next = parts.0; legal = subst (IsLegal map from move) step.2.1 step.1; best = parts.2 }

leads_on : (map : Map) (goal from : Cell) (move : Move) (rest : List Move) → IsBest map from (move ∷ rest) goal → LeadsOn map goal from move
leads_on map goal from move rest best =
    let first = begins map goal from move rest best in
    record { next = first.next; legal = first.legal; ahead = (rest, first.best.leads) }

-- ---- what is kept leads on

module _ (map : Map) (route : Route) (cells : List Cell) (home : IsHome map route cells) (at : Cell) (ahead : Reaches map at route.goal) (apart : at ≢ route.goal) where
  -- the move that is kept begins a best path of the whole map
  kept_is_best : (rows : List (List Run)) (are : AreRows cells rows) (move : Move) → IsKept cells rows at route.goal move
      → (rest : List Move) × IsBest map at (move ∷ rest) route.goal
  kept_is_best rows are move kept =
      let way = kept_is_first cells rows are at route.goal move apart kept in
      let just = just_component map route cells home are.map are.just in
      (way.0, (components_keep_best_paths map home.component are.map home.is just at (move ∷ way.0) route.goal (in_component map route cells home at ahead)).0 way.1)

  pub kept_leads_on : CanBeWalked map cells → (move : Move) → IsKeptOver cells at route.goal move → LeadsOn map route.goal at move
  kept_leads_on can move kept =
      let rows = rows_exist cells can.sources in
      let best = kept_is_best rows.0 rows.1 move (kept rows.0 rows.1) in
      leads_on map route.goal at move best.0 best.1

-- ---- by the costs to the goal

module _ (map : Map) (route : Route) (search : Searched) (has : HasSearched map route.goal search) where
  key_of_best : (at : Cell) (moves : List Move) → IsInside map at → IsBest map at moves route.goal → key_at map.width (keys_of search) at ≡ key_of (cost_of moves)
  key_of_best at moves inside best =
      let least = least_back map route.goal at (cost_at search at) (has.least at inside) in
      let same : cost_at search at ≡ Some (cost_of moves) = same_least map at route.goal (cost_at search at) (Some (cost_of moves)) least (moves, best, refl) in
      let here : slice_index_or search.costs (place_of map.width at) None ≡ Some (cost_of moves) =
      subst (λ w. slice_index_or search.costs (place_of w at) None ≡ Some (cost_of moves)) has.width same in
      let within : place_of map.width at < length search.costs = omega (arith, place_inside map.width map.height at inside.column inside.row, has.cells) in
      get_or-map key_or_none search.costs (place_of map.width at) None NO_KEY within ∙ ap key_or_none here

  -- the first move of a best path comes down
  comes_down : (at : Cell) (move : Move) (rest : List Move) → IsInside map at → IsBest map at (move ∷ rest) route.goal → ComesDown map (keys_of search) at move
  comes_down at move rest inside best =
      let first = begins map route.goal at move rest best in
      record {
        next = first.next;
        legal = first.legal;
        down =
            ap (λ k. k + move_key move) (key_of_best first.next rest first.legal.enters.passable.inside first.best)
            ∙ sym (key_of-plus_step (cost_of rest) (is_diagonal move))
            ∙ sym (ap key_of (cost_of-cons move rest))
            ∙ sym (key_of_best at (move ∷ rest) inside best);
      }

  module _ (at : Cell) (ahead : Reaches map at route.goal) (apart : at ≢ route.goal) (move : Move) (alone : IsAlone map (keys_of search) at move) where
    inside : IsInside map at
    inside = (leads_from map at route.goal ahead.0 ahead.1).inside

    pub alone_leads_on : LeadsOn map route.goal at move
    alone_leads_on =
        let best = best_path_exists map at route.goal ahead in
        by_best best.0 best.1
      where
        by_best : (moves : List Move) → IsBest map at moves route.goal → LeadsOn map route.goal at move
        by_best [] best = absurd (apart best.leads.1)
        by_best (first ∷ rest) best =
            subst (LeadsOn map route.goal at) (alone first (comes_down at first rest inside best)) (leads_on map route.goal at first rest best)

    -- the row can keep no other
    pub alone_is_kept : (cells : List Cell) → IsHome map route cells → IsKeptOver cells at route.goal move
    alone_is_kept cells home = λ rows are.
        let kept = some_kept cells rows are at route.goal (among map route cells home at ahead) (goal_among map route cells home) in
        let best = kept_is_best map route cells home at ahead apart rows are kept.0 kept.1 in
        subst (IsKept cells rows at route.goal) (alone kept.0 (comes_down at kept.0 best.0 inside best.1)) kept.1

-- ---- whether there is a way

module _ (map : Map) (start goal : Cell) (search : Searched) (has : HasSearched map goal search) (inside : IsInside map start) where
  pub unreached : cost_at search start ≡ None → Reaches map start goal → ⊥
  unreached none reach = subst (IsLeastCost map goal start) none (has.least start inside) (back map start goal reach)

  pub reached : (cost : Cost) → cost_at search start ≡ Some cost → Reaches map start goal
  reached cost some = let least = subst (IsLeastCost map goal start) some (has.least start inside) in back map goal start (least.0, least.1.leads)
