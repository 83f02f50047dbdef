-- What holds while cells are settled one by one, by rising key: how a turn keeps it, however the next cell is found.
use Rattle.std.proofs.Common.{◌≡◌, ℕ, ◌+◌, ◌<◌, ◌≤◌, Bool, true, false, List, [], ◌∷◌, ◌++◌, length, get_or, sym, ap, ◌∙◌, subst, inl, inr, arith, Contains}
use Rattle.std.proofs.lemmas.List.{length_push}
use Rattle.std.proofs.lemmas.List.Elements.{All-push, All-contains, Contains-push, Contains-append_left, Contains-push_cases, Contains-get_or}
use Rattle.std.proofs.lemmas.List.Quantifiers.{all_pairs_push}
use Rattle.root_cost.specs.declared.Cost.{Cost}
use Rattle.root_cost.specs.Costs.{key_of, plus_step}
use Rattle.root_cost.proofs.Adding.{key_of-plus_step, plus_step-counts}
use Rattle.moves.specs.declared.Cell.{Cell}
use Rattle.moves.specs.declared.Move.{Move}
use Rattle.moves.specs.Maps.{Map, IsPassable}
use Rattle.moves.specs.Moves.{is_diagonal, IsLegal}
use Rattle.root_cost.specs.Keys.{step_key}
use Rattle.grid_search.specs.Keys.{move_key, key_at}
use Rattle.grid_search.specs.Settling.{IsReached, IsProgress, IsRelaxed, IsNext, EveryMove}
use Rattle.root_cost.specs.declared.TheConstants.{NO_KEY, STRAIGHT_KEY, DIAGONAL_KEY}

some_if : (d : Bool) → STRAIGHT_KEY ≤ step_key d
some_if true = omega arith
some_if false = omega arith

most_if : (d : Bool) → step_key d ≤ DIAGONAL_KEY
most_if true = omega arith
most_if false = omega arith

pub step_least : (move : Move) → STRAIGHT_KEY ≤ move_key move
step_least move = some_if (is_diagonal move)

pub step_most : (move : Move) → move_key move ≤ DIAGONAL_KEY
step_most move = most_if (is_diagonal move)

module _ (map : Map) (source : Cell) (keys : List ℕ) (settled : List Cell) (passable : IsPassable map source)
    (p : IsProgress map source keys settled) (u : Cell) (next : IsNext map keys settled u)
    (after : List ℕ) (r : IsRelaxed map u (key_at map.width keys u) EveryMove keys after) where
  -- the keys of the cells that are settled now: no step leads below them
  kept : (a : Cell) → IsReached map keys a → key_at map.width keys a ≤ key_at map.width keys u → key_at map.width after a ≡ key_at map.width keys a
  kept a reached below = elim (r.from_there a reached.inside) [
    | inl same ↦ same
    | inr (move, legal, e) ↦
        let some : STRAIGHT_KEY ≤ move_key move = step_least move in
        let lower : key_at map.width after a ≤ key_at map.width keys a = r.lower a reached.inside in
        absurd (omega arith)
  ]

  settled_below : (a : Cell) → Contains settled a → key_at map.width keys a ≤ key_at map.width keys u
  settled_below a was = p.waits a u was next.reached next.open_yet

  settled_kept : (a : Cell) → Contains settled a → key_at map.width after a ≡ key_at map.width keys a
  settled_kept a was = kept a (All-contains (IsReached map keys) settled a p.reached was) (settled_below a was)

  next_kept : key_at map.width after u ≡ key_at map.width keys u
  next_kept = kept u next.reached (omega arith)

  kept_now : (a : Cell) → Contains (settled ++ u ∷ []) a → key_at map.width after a ≡ key_at map.width keys a
  kept_now a now = elim (Contains-push_cases settled u a now) [
    | inl was ↦ settled_kept a was
    | inr e ↦ sym (ap (key_at map.width after) e) ∙ next_kept ∙ ap (key_at map.width keys) e
  ]

  now_if_was : (a : Cell) → Contains settled a → Contains (settled ++ u ∷ []) a
  now_if_was a was = Contains-append_left settled (u ∷ []) a was

  u_now : Contains (settled ++ u ∷ []) u
  u_now = Contains-push settled u

  relaxed_after : (a b : Cell) (move : Move) → Contains (settled ++ u ∷ []) a → IsLegal map a move b
      → key_at map.width after b ≤ key_at map.width after a + move_key move
  relaxed_after a b move now legal = elim (Contains-push_cases settled u a now) [
    | inl was ↦
        let same : key_at map.width after a ≡ key_at map.width keys a = settled_kept a was in
        let lower : key_at map.width after b ≤ key_at map.width keys b = r.lower b legal.enters.passable.inside in
        let step : key_at map.width keys b ≤ key_at map.width keys a + move_key move = p.relaxed a b move was legal in
        omega arith
    | inr e ↦
        let legal_u : IsLegal map u move b = subst (λ c. IsLegal map c move b) (sym e) legal in
        let step : key_at map.width after b ≤ key_at map.width keys u + move_key move = r.moved b move tt legal_u in
        let same : key_at map.width after u ≡ key_at map.width keys u = next_kept in
        let here : key_at map.width after u ≡ key_at map.width after a = ap (key_at map.width after) e in
        omega arith
  ]

  was_reached : (b : Cell) → IsReached map after b → key_at map.width after b ≡ key_at map.width keys b → IsReached map keys b
  was_reached b reached same = let found : key_at map.width after b < NO_KEY = reached.found in record { inside = reached.inside; found = omega arith }

  attained_after : (b : Cell) → IsReached map after b → (b ≡ source → ⊥)
      → (a : Cell) × (move : Move) × Contains (settled ++ u ∷ []) a × IsLegal map a move b
      × (key_at map.width after b ≡ key_at map.width after a + move_key move)
  attained_after b reached apart = elim (r.from_there b reached.inside) [
    | inl same ↦
        let (a, move, was, legal, e) = p.attained b (was_reached b reached same) apart in
        (a, move, now_if_was a was, legal, same ∙ e ∙ ap (λ k. k + move_key move) (sym (settled_kept a was)))
    | inr (move, legal, e) ↦ (u, move, u_now, legal, e ∙ ap (λ k. k + move_key move) (sym next_kept))
  ]

  waits_after : (a b : Cell) → Contains (settled ++ u ∷ []) a → IsReached map after b → (Contains (settled ++ u ∷ []) b → ⊥)
      → key_at map.width after a ≤ key_at map.width after b
  waits_after a b now reached open_yet =
      let same : key_at map.width after a ≡ key_at map.width keys a = kept_now a now in
      let low : key_at map.width keys a ≤ key_at map.width keys u = elim (Contains-push_cases settled u a now) [
        | inl was ↦ settled_below a was
        | inr e ↦ let h : key_at map.width keys u ≡ key_at map.width keys a = ap (key_at map.width keys) e in omega arith
      ] in
      elim (r.from_there b reached.inside) [
        | inl kept_b ↦
            let least : key_at map.width keys u ≤ key_at map.width keys b = next.least b (was_reached b reached kept_b)
            (λ was. open_yet (now_if_was b was)) in
            omega arith
        | inr (move, legal, e) ↦ omega arith
      ]

  costs_after : (b : Cell) → IsReached map after b → (cost : Cost) × (key_of cost ≡ key_at map.width after b)
      × (cost.straight + cost.diagonal ≤ length (settled ++ u ∷ []))
  costs_after b reached = elim (r.from_there b reached.inside) [
    | inl same ↦
        let (cost, e, few) = p.costs b (was_reached b reached same) in
        (cost, e ∙ sym same, omega (arith, length_push settled u))
    | inr (move, legal, e) ↦
        let (cost, k, few) = p.costs u next.reached in
        let d = is_diagonal move in
        (plus_step cost d, key_of-plus_step cost d ∙ ap (λ k. k + move_key move) k ∙ sym e, omega (arith, plus_step-counts cost d, length_push settled u))
  ]

  shorter_after : (b : Cell) → Contains (settled ++ u ∷ []) b → (cost : Cost) × (key_of cost ≡ key_at map.width after b)
      × (cost.straight + cost.diagonal < length (settled ++ u ∷ []))
  shorter_after b now = elim (Contains-push_cases settled u b now) [
    | inl was ↦
        let (cost, k, few) = p.shorter b was in
        (cost, k ∙ sym (settled_kept b was), omega (arith, length_push settled u))
    | inr e ↦
        let (cost, k, few) = p.costs u next.reached in
        (cost, k ∙ sym next_kept ∙ ap (key_at map.width after) e, omega (arith, length_push settled u))
  ]

  still_reached : (a : Cell) → Contains (settled ++ u ∷ []) a → IsReached map keys a → IsReached map after a
  still_reached a now reached =
      let same : key_at map.width after a ≡ key_at map.width keys a = kept_now a now in
      let found : key_at map.width keys a < NO_KEY = reached.found in
      record { inside = reached.inside; found = omega arith }

  pub turn : IsProgress map source after (settled ++ u ∷ [])
  turn = record {
    start = let h : key_at map.width after source ≤ key_at map.width keys source = r.lower source passable.inside in
        let k : key_at map.width keys source ≡ 0 = p.start in omega arith;
    relaxed = relaxed_after;
    attained = attained_after;
    waits = waits_after;
    costs = costs_after;
    shorter = shorter_after;
    reached = All-push (IsReached map after) settled u
        (λ k d h. still_reached (get_or settled k d) (now_if_was (get_or settled k d) (Contains-get_or settled k d h)) (p.reached k d h))
        (still_reached u u_now next.reached);
    once = all_pairs_push (λ a b. a ≡ b → ⊥) settled u p.once (λ k d h e. next.open_yet (subst (Contains settled) e (Contains-get_or settled k d h)));
    rising = all_pairs_push (λ a b. key_at map.width after a ≤ key_at map.width after b) settled u
        (λ i j d h k.
        let before : key_at map.width keys (get_or settled i d) ≤ key_at map.width keys (get_or settled j d) = p.rising i j d h k in
        let first : key_at map.width after (get_or settled i d) ≡ key_at map.width keys (get_or settled i d) = settled_kept (get_or settled i d)
        (Contains-get_or settled i d (omega arith)) in
        let second : key_at map.width after (get_or settled j d) ≡ key_at map.width keys (get_or settled j d) = settled_kept (get_or settled j d)
        (Contains-get_or settled j d k) in
        omega arith)
        (λ i d h.
        let was : Contains settled (get_or settled i d) = Contains-get_or settled i d h in
        let below : key_at map.width keys (get_or settled i d) ≤ key_at map.width keys u = settled_below (get_or settled i d) was in
        let first : key_at map.width after (get_or settled i d) ≡ key_at map.width keys (get_or settled i d) = settled_kept (get_or settled i d) was in
        let last : key_at map.width after u ≡ key_at map.width keys u = next_kept in
        omega arith);
    beyond = λ place h. r.beyond place h ∙ p.beyond place h;
  }
