-- What a search has found when no reached cell is left: a table of costs that are the least, in order.
use Rattle.std.proofs.Common.{◌≡◌, ◌≢◌, ℕ, zero, suc, ◌+◌, ◌*◌, ◌<◌, ◌≤◌, ◌&&◌, Bool, true, false, cond, nat_lt, List, [], ◌∷◌, ◌++◌, Option, Some, None, map, take, length, get_or, refl, sym, ap, ◌∙◌, subst, inl, inr, arith, All, AllPairs, Contains}
use Rattle.std.proofs.lemmas.Bool.{cases_lt, cases_Bool, lt-ltb, ltb-true, and_parts, and_from}
use Rattle.std.proofs.lemmas.List.{get_or-map, get_or-take, length-map, length-take-le, length_push}
use Rattle.std.proofs.lemmas.List.Elements.{All-push, All-contains, Contains-get_or}
use Rattle.std.proofs.lemmas.List.Quantifiers.{all_pairs_push}
use Rattle.root_cost.specs.declared.Cost.{Cost}
use Rattle.root_cost.specs.Costs.{key_of, no_cost, plus_step, IsAtMost}
use Rattle.root_cost.proofs.Adding.{key_of-plus_step}
use Rattle.root_cost.proofs.Keys.{at_most_if_key, same_if_key}
use Rattle.moves.specs.declared.Cell.{Cell}
use Rattle.moves.specs.declared.Move.{Move}
use Rattle.moves.specs.Maps.{Map, IsInside, IsPassable, passable_of, place_of, passable_count, IsSearchable}
use Rattle.moves.specs.Moves.{is_diagonal, IsLegal}
use Rattle.moves.specs.Paths.{IsLeastCost}
use Rattle.moves.specs.CostTables.{IsCostTable, after_step}
use Rattle.moves.proofs.TableLaws.{same_or_apart, tables_are_least}
use Rattle.root_cost.specs.Keys.{cost_if_key}
use Rattle.grid_search.specs.Keys.{move_key, key_at}
use Rattle.grid_search.specs.Searches.{Searched, cost_at, HasCost, IsNoDearer, IsInOrder, HasSearched}
use Rattle.root_cost.proofs.Keys.{cost_if_of, cost_if_none}
use Rattle.grid_search.proofs.Counting.{marked_once}
use Rattle.grid_search.specs.Settling.{IsReached, IsProgress, IsNext, IsFinished}
use Rattle.grid_search.proofs.Progress.{step_least, step_most}
use Rattle.moves.proofs.RowMajor.{same_cell_from_place, place_inside}
use Rattle.moves.proofs.TableLaws.{one_some}
use Rattle.grid_search.proofs.Preceding.{some_of}
use Rattle.root_cost.specs.declared.TheConstants.{NO_KEY, STRAIGHT_KEY, DIAGONAL_KEY, KEYED_DIAGONALS, GREATEST_KEY}
use Rattle.moves.specs.declared.TheConstants.{MAX_PASSABLE}

-- whether the cell is inside
is_inside : Map → Cell → Bool
is_inside m cell = nat_lt cell.x m.width && nat_lt cell.y m.height

inside_if : (m : Map) (cell : Cell) → IsInside m cell → is_inside m cell ≡ true
unfolding is_inside
inside_if m cell h = and_from (nat_lt cell.x m.width) (nat_lt cell.y m.height) (lt-ltb cell.x m.width h.column) (lt-ltb cell.y m.height h.row)

if_inside : (m : Map) (cell : Cell) → is_inside m cell ≡ true → IsInside m cell
unfolding is_inside
if_inside m cell h =
    let parts : (nat_lt cell.x m.width ≡ true) × (nat_lt cell.y m.height ≡ true) = and_parts (nat_lt cell.x m.width) (nat_lt cell.y m.height) h in
    record { column = ltb-true cell.x m.width parts.0; row = ltb-true cell.y m.height parts.1 }

-- the costs that keys stand for, of the cells inside
table_of : Map → List ℕ → Cell → Option Cost
table_of m keys cell = cond (is_inside m cell) (cost_if_key (key_at m.width keys cell)) None

table_inside : (m : Map) (keys : List ℕ) (cell : Cell) → IsInside m cell → table_of m keys cell ≡ cost_if_key (key_at m.width keys cell)
unfolding table_of
table_inside m keys cell h = ap (λ b. cond b (cost_if_key (key_at m.width keys cell)) None) (inside_if m cell h)

none_some : (cost : Cost) → None ≡ Some cost → ⊥
none_some cost e = cc

-- a map with a passable cell has some
pub some_passable : (m : Map) (cell : Cell) → IsPassable m cell → 0 < passable_count m
some_passable m cell passable =
    let one : length (cell ∷ []) ≤ passable_count m = marked_once (place_of m.width) (cell ∷ []) (passable_of m)
    (all_pairs_push (λ a b. place_of m.width a ≡ place_of m.width b → ⊥) [] cell (λ i j d h k. absurd (omega arith)) (λ k d h. absurd (omega arith)))
    (All-push (λ c. get_or (passable_of m) (place_of m.width c) false ≡ true) [] cell (λ k d h. absurd (omega arith)) passable.passable) in
    omega arith

module _ (m : Map) (source : Cell) (keys : List ℕ) (settled : List Cell) (passable : IsPassable m source)
    (p : IsProgress m source keys settled) where
  pub reached_passable : (cell : Cell) → IsReached m keys cell → IsPassable m cell
  reached_passable cell reached = elim (same_or_apart cell source) [
    | inl same ↦ subst (IsPassable m) (sym same) passable
    | inr apart ↦ let (a, move, was, legal, e) = p.attained cell reached apart in legal.enters.passable
  ]

  -- settled cells are passable and differ in their places
  apart_settled : AllPairs (λ a b. place_of m.width a ≡ place_of m.width b → ⊥) settled
  apart_settled i j d h k e = p.once i j d h k
      (same_cell_from_place m.width (get_or settled i d) (get_or settled j d) (p.reached i d (omega arith)).inside.column (p.reached j d k).inside.column e)

  passable_settled : All (λ cell. get_or (passable_of m) (place_of m.width cell) false ≡ true) settled
  passable_settled k d h = (reached_passable (get_or settled k d) (p.reached k d h)).passable

  pub settled_count : length settled ≤ passable_count m
  settled_count = marked_once (place_of m.width) settled (passable_of m) apart_settled passable_settled

  -- while a reached cell is left, so is a place in the list
  pub room_left : (u : Cell) → IsNext m keys settled u → length settled < passable_count m
  room_left u next =
      let longer : length (settled ++ u ∷ []) ≡ length settled + 1 = length_push settled u in
      let count : length (settled ++ u ∷ []) ≤ passable_count m = marked_once (place_of m.width) (settled ++ u ∷ []) (passable_of m)
      (all_pairs_push (λ a b. place_of m.width a ≡ place_of m.width b → ⊥) settled u apart_settled
      (λ i d h e. next.open_yet (subst (Contains settled)
      (same_cell_from_place m.width (get_or settled i d) u (p.reached i d h).inside.column next.reached.inside.column e) (Contains-get_or settled i d h))))
      (All-push (λ c. get_or (passable_of m) (place_of m.width c) false ≡ true) settled u passable_settled (reached_passable u next.reached).passable) in
      omega arith

  -- a key leaves room for one step more
  pub key_few : (b : Cell) → IsSearchable m → IsReached m keys b → key_at m.width keys b ≤ GREATEST_KEY
  key_few b few reached =
      let (cost, e, steps) = p.costs b reached in
      let count : length settled ≤ passable_count m = settled_count in
      omega arith

  module _ (few : IsSearchable m) (over : (b : Cell) → IsReached m keys b → Contains settled b)
      (limit : (b : Cell) → IsInside m b → key_at m.width keys b ≤ NO_KEY) where
    settled_reached : (cell : Cell) → Contains settled cell → IsReached m keys cell
    settled_reached cell was = All-contains (IsReached m keys) settled cell p.reached was

    -- a reached cell's cost
    cost_of_reached : (cell : Cell) → IsReached m keys cell → (cost : Cost) × (table_of m keys cell ≡ Some cost) × (key_of cost ≡ key_at m.width keys cell)
        × (cost.straight + cost.diagonal < passable_count m)
    cost_of_reached cell reached =
        let (cost, e, steps) = p.shorter cell (over cell reached) in
        let count : length settled ≤ passable_count m = settled_count in
        (cost, table_inside m keys cell reached.inside ∙ cost_if_of (key_at m.width keys cell) cost e (omega arith) reached.found, e, omega arith)

    reached_if : (cell : Cell) (cost : Cost) → table_of m keys cell ≡ Some cost → IsReached m keys cell
    unfolding table_of
    reached_if cell cost e = elim (cases_Bool (is_inside m cell)) [
      | inr no_inside ↦ absurd (none_some cost (ap (λ b. cond b (cost_if_key (key_at m.width keys cell)) None) (sym no_inside) ∙ e))
      | inl h ↦
          let inside : IsInside m cell = if_inside m cell h in
          elim (cases_lt (key_at m.width keys cell) NO_KEY) [
            | inl k ↦ record { inside = inside; found = k }
            | inr k ↦
                let most : key_at m.width keys cell ≤ NO_KEY = limit cell inside in
                let same : key_at m.width keys cell ≡ NO_KEY = omega arith in
                absurd (none_some cost (sym (ap cost_if_key same ∙ cost_if_none) ∙ sym (table_inside m keys cell inside) ∙ e))
          ]
    ]

    key_if : (cell : Cell) (cost : Cost) → table_of m keys cell ≡ Some cost
        → (key_of cost ≡ key_at m.width keys cell) × (cost.straight + cost.diagonal ≤ MAX_PASSABLE)
    key_if cell cost e =
        let (own, t, k, steps) = cost_of_reached cell (reached_if cell cost e) in
        let same : own ≡ cost = one_some own cost (sym t ∙ e) in
        (ap key_of (sym same) ∙ k, subst (λ c. c.straight + c.diagonal ≤ MAX_PASSABLE) same (omega arith))

    step_few : (cost : Cost) (d : Bool) → cost.straight + cost.diagonal ≤ MAX_PASSABLE → (plus_step cost d).diagonal < KEYED_DIAGONALS
    step_few cost true h = omega arith
    step_few cost false h = omega arith

    table_no_shorter : (from : Cell) (move : Move) (to : Cell) (cost : Cost) → table_of m keys from ≡ Some cost → IsLegal m from move to
        → (next : Cost) × (table_of m keys to ≡ Some next) × IsAtMost next (after_step cost move)
    table_no_shorter from move to cost e legal =
        let reached : IsReached m keys from = reached_if from cost e in
        let own : (key_of cost ≡ key_at m.width keys from) × (cost.straight + cost.diagonal ≤ MAX_PASSABLE) = key_if from cost e in
        let key_is : key_of cost ≡ key_at m.width keys from = own.0 in
        let steps : cost.straight + cost.diagonal ≤ MAX_PASSABLE = own.1 in
        let step : key_at m.width keys to ≤ key_at m.width keys from + move_key move = p.relaxed from to move (over from reached) legal in
        let most : move_key move ≤ DIAGONAL_KEY = step_most move in
        let (next, t, k, few_next) = cost_of_reached to (record { inside = legal.enters.passable.inside; found = omega arith }) in
        let longer : key_of (after_step cost move) ≡ key_of cost + move_key move = key_of-plus_step cost (is_diagonal move) in
        let low : key_of next ≤ key_of (after_step cost move) = rw (k, longer, key_is) step in
        (next, t, at_most_if_key next (after_step cost move) (omega arith) (step_few cost (is_diagonal move) steps) low)

    table_attained : (to : Cell) (cost : Cost) → table_of m keys to ≡ Some cost → to ≢ source
        → (from : Cell) × (move : Move) × (before : Cost) × (table_of m keys from ≡ Some before) × IsLegal m from move to × (cost ≡ after_step before move)
    table_attained to cost e apart =
        let (from, move, was, legal, k) = p.attained to (reached_if to cost e) apart in
        let (before, t, key_is, steps) = cost_of_reached from (settled_reached from was) in
        let own : (key_of cost ≡ key_at m.width keys to) × (cost.straight + cost.diagonal ≤ MAX_PASSABLE) = key_if to cost e in
        let steps_to : cost.straight + cost.diagonal ≤ MAX_PASSABLE = own.1 in
        let longer : key_of (after_step before move) ≡ key_of before + move_key move = key_of-plus_step before (is_diagonal move) in (
          from,
          move,
          before,
          t,
          legal,
          same_if_key cost (after_step before move) (omega arith) (step_few before (is_diagonal move) (omega arith))
              (own.0 ∙ k ∙ ap (λ n. n + move_key move) (sym key_is) ∙ sym longer),
        )

    table_start : table_of m keys source ≡ Some no_cost
    table_start =
        let zero_key : key_at m.width keys source ≡ 0 = p.start in
        table_inside m keys source passable.inside ∙ cost_if_of (key_at m.width keys source) no_cost (sym zero_key) (omega arith) (omega arith)

    is_table : IsCostTable m source (table_of m keys)
    is_table = record { start = table_start; no_shorter = table_no_shorter; attained = table_attained }

    costs_least : (cell : Cell) → IsInside m cell → IsLeastCost m source cell (cost_if_key (key_at m.width keys cell))
    costs_least cell inside = subst (IsLeastCost m source cell) (table_inside m keys cell inside)
        (tables_are_least m source (table_of m keys) passable is_table cell)

    -- ---- what callers see

    module _ (room : ℕ) (fits : m.width * m.height ≤ length keys) where
      found : Searched
      found = record { room = room; width = m.width; height = m.height; costs = map cost_if_key (take (m.width * m.height) keys); settled = settled }

      cost_found : (cell : Cell) → IsInside m cell → cost_at found cell ≡ cost_if_key (key_at m.width keys cell)
      unfolding found
      cost_found cell inside =
          let place : place_of m.width cell < m.width * m.height = place_inside m.width m.height cell inside.column inside.row in
          let cut : length (take (m.width * m.height) keys) ≡ m.width * m.height = length-take-le (m.width * m.height) keys fits in
          get_or-map cost_if_key (take (m.width * m.height) keys) (place_of m.width cell) NO_KEY None (omega arith)
          ∙ ap cost_if_key (get_or-take (m.width * m.height) keys (place_of m.width cell) NO_KEY place)

      cost_reached : (cell : Cell) → IsReached m keys cell → (cost : Cost) × (cost_at found cell ≡ Some cost) × (key_of cost ≡ key_at m.width keys cell)
          × (cost.straight + cost.diagonal < passable_count m)
      cost_reached cell reached =
          let (cost, t, k, steps) = cost_of_reached cell reached in
          (cost, cost_found cell reached.inside ∙ sym (table_inside m keys cell reached.inside) ∙ t, k, steps)

      has_cost : (cell : Cell) → IsReached m keys cell → HasCost found cell
      unfolding found
      has_cost cell reached =
          let (cost, t, k, steps) = cost_reached cell reached in
          record { column = reached.inside.column; row = reached.inside.row; cost = rw t refl }

      reached_has : (cell : Cell) → HasCost found cell → IsReached m keys cell
      unfolding found
      reached_has cell has =
          let inside : IsInside m cell = record { column = has.column; row = has.row } in
          let (cost, e) = some_of (cost_at found cell) has.cost in
          reached_if cell cost (table_inside m keys cell inside ∙ sym (cost_found cell inside) ∙ e)

      no_dearer : (a b : Cell) → IsReached m keys a → IsReached m keys b → key_at m.width keys a ≤ key_at m.width keys b → IsNoDearer found a b
      no_dearer a b ra rb below =
          let (x, e, k, steps) = cost_reached a ra in
          let (y, f, l, steps_y) = cost_reached b rb in
          let low : IsAtMost x y = at_most_if_key x y (omega arith) (omega arith) (rw (k, l) below) in
          rw (e, f) low

      source_reached : IsReached m keys source
      source_reached = let zero_key : key_at m.width keys source ≡ 0 = p.start in record { inside = passable.inside; found = omega arith }

      -- no other cell has the key of the source
      first_is_source : (cell : Cell) → IsReached m keys cell → key_at m.width keys cell ≤ key_at m.width keys source → cell ≡ source
      first_is_source cell reached below = elim (same_or_apart cell source) [
        | inl same ↦ same
        | inr apart ↦
            let (a, move, was, legal, k) = p.attained cell reached apart in
            let zero_key : key_at m.width keys source ≡ 0 = p.start in
            let some : STRAIGHT_KEY ≤ move_key move = step_least move in
            absurd (omega arith)
      ]

      first_at : (k : ℕ) → k < length settled → get_or settled k source ≡ source → get_or settled 0 source ≡ source
      first_at zero h e = e
      first_at (suc k) h e =
          let below : key_at m.width keys (get_or settled 0 source) ≤ key_at m.width keys (get_or settled (suc k) source) = p.rising 0 (suc k) source
          (omega arith) h in
          let level : key_at m.width keys (get_or settled (suc k) source) ≡ key_at m.width keys source = ap (key_at m.width keys) e in
          first_is_source (get_or settled 0 source) (p.reached 0 source (omega arith)) (omega arith)

      in_order : IsInOrder source found
      unfolding found
      in_order = record {
        all = λ cell has. over cell (reached_has cell has);
        reached = λ k d h. has_cost (get_or settled k d) (p.reached k d h);
        once = p.once;
        rising = λ i j d h k. no_dearer (get_or settled i d) (get_or settled j d) (p.reached i d (omega arith)) (p.reached j d k) (p.rising i j d h k);
        some = let (k, h, e) = over source source_reached in omega arith;
        first = let (k, h, e) = over source source_reached in first_at k h e;
      }

      has_searched : HasSearched m source found
      unfolding found
      has_searched = record {
        width = refl;
        height = refl;
        cells = length-map (take (m.width * m.height) keys) cost_if_key ∙ length-take-le (m.width * m.height) keys fits;
        least = λ cell inside. subst (IsLeastCost m source cell) (sym (cost_found cell inside)) (costs_least cell inside);
        few = few;
        short = λ cell cost inside e.
            let here : table_of m keys cell ≡ Some cost = table_inside m keys cell inside ∙ sym (cost_found cell inside) ∙ e in
            let (own, t, k, steps) = cost_of_reached cell (reached_if cell cost here) in
            let same : own ≡ cost = one_some own cost (sym t ∙ here) in
            subst (λ c. c.straight + c.diagonal < passable_count m) same steps;
        order = in_order;
        counted = settled_count;
      }

-- what callers see of a finished search
pub searched : (m : Map) (source : Cell) (keys : List ℕ) (settled : List Cell) → IsPassable m source → IsSearchable m
    → IsFinished m source keys settled → (room : ℕ) → m.width * m.height ≤ length keys
    → HasSearched m source (record {
      room = room;
      width = m.width;
      height = m.height;
      costs = map cost_if_key
          (take (m.width * m.height) keys);
      settled = settled;
    })
unfolding found
searched m source keys settled passable few f room fits = has_searched m source keys settled passable f.progress few f.over f.limit room fits
