-- Sets that meet their equations are the first sets.
use Rattle.std.proofs.Common.{◌≡◌, ◌≢◌, ℕ, zero, suc, ◌+◌, ◌<◌, ◌≤◌, ◌⊎◌, ◌↔◌, Bool, true, false, cond, List, length, Some, inl, inr, refl, sym, ap, subst, ◌∙◌, arith}
use Rattle.std.proofs.lemmas.Bool.{cases_eq}
use Rattle.root_cost.specs.declared.Cost.{Cost}
use Rattle.root_cost.specs.Keys.{key_of, cost_of_key}
use Rattle.moves.specs.declared.Cell.{Cell}
use Rattle.moves.specs.declared.Move.{Move}
use Rattle.moves.specs.declared.Move.TheVariants.{N, NE, E, SE, S, SW, W, NW}
use Rattle.moves.specs.Maps.{Map}
use Rattle.moves.specs.Moves.{is_diagonal, opposite, IsTarget}
use Rattle.moves.specs.MoveSets.{Has}
use Rattle.moves.specs.Paths.{IsLeastCost}
use Rattle.moves.specs.FirstSets.{IsFirstMove, ComesBy}
use Rattle.moves.proofs.MoveLaws.{opposite-opposite}
use Rattle.moves.proofs.LeastCosts.{same_least}
use Rattle.moves.proofs.FirstMoves.{IsLocal, first_moves_are_local}
use Rattle.moves.proofs.MoveLaws.{legal_back}
use Rattle.moves.specs.FirstSetLists.{cell_of}
use Rattle.lane_rows.specs.Tables.{IsMutual, edges_of, end_of}
use Rattle.lane_rows.specs.Equations.{offered, step_of}
use Rattle.lane_rows.specs.Visits.{AreSolved, IsSettled}
use Rattle.lane_rows.specs.Laws.{IsTableOf, SolvedSetsAreFirst}
use Rattle.lane_rows.proofs.Indexing.{same_place}
use Rattle.lane_rows.proofs.Exact.{step_of-opposite, step_least, step_most, key_more, back_step, step_cost, settled, small, source_key, onward, led, attaining, neighbour, keyed, least_at}

column_and_row : (a : Cell) (m : Move) (b : Cell) → IsTarget a m b → is_diagonal m ≡ true → (a.x ≡ b.x → ⊥) × (a.y ≡ b.y → ⊥)
column_and_row a N b p e = absurd (cc)
column_and_row a NE b p e = let u = p.0 in let v = p.1 in (λ s. omega arith, λ s. omega arith)
column_and_row a E b p e = absurd (cc)
column_and_row a SE b p e = let u = p.0 in let v = p.1 in (λ s. omega arith, λ s. omega arith)
column_and_row a S b p e = absurd (cc)
column_and_row a SW b p e = let u = p.0 in let v = p.1 in (λ s. omega arith, λ s. omega arith)
column_and_row a W b p e = absurd (cc)
column_and_row a NW b p e = let u = p.0 in let v = p.1 in (λ s. omega arith, λ s. omega arith)

column_or_row : (a : Cell) (m : Move) (b : Cell) → IsTarget a m b → is_diagonal m ≡ false → (a.x ≡ b.x) ⊎ (a.y ≡ b.y)
column_or_row a N b p e = inl (sym p.0)
column_or_row a NE b p e = absurd (cc)
column_or_row a E b p e = inr (sym p.1)
column_or_row a SE b p e = absurd (cc)
column_or_row a S b p e = inl (sym p.0)
column_or_row a SW b p e = absurd (cc)
column_or_row a W b p e = inr (sym p.1)
column_or_row a NW b p e = absurd (cc)

mixed : (a : Cell) (m k : Move) (b : Cell) → IsTarget a m b → IsTarget a k b → is_diagonal m ≡ true → is_diagonal k ≡ false → ⊥
mixed a m k b p q e f = let both = column_and_row a m b p e in elim (column_or_row a k b q f) [ inl x ↦ both.0 x | inr y ↦ both.1 y ]

-- a move is diagonal where it changes column and row
same_kind : (a : Cell) (m k : Move) (b : Cell) → IsTarget a m b → IsTarget a k b → step_of m ≡ step_of k
same_kind a m k b p q = go (is_diagonal m) (is_diagonal k) refl refl
  where
    go : (s t : Bool) → is_diagonal m ≡ s → is_diagonal k ≡ t → step_of m ≡ step_of k
    go true true e f = ap (λ b. cond b 47321 33461) (e ∙ sym f)
    go false false e f = ap (λ b. cond b 47321 33461) (e ∙ sym f)
    go true false e f = absurd (mixed a m k b p q e f)
    go false true e f = absurd (mixed a k m b q p f e)

module _ (map : Map) (cells : List Cell) (near : List (List ℕ)) (source : ℕ) (keys sets : ℕ → ℕ) (table : IsTableOf map cells near) (pair : IsMutual near) (inside : source < length cells)
    (solved : AreSolved near source keys sets) where
  -- the least cost of a cell, by its key
  abbrev cost : ℕ → Cost
  cost place = cost_of_key (keys place)

  abbrev to : ℕ → Move → ℕ
  to place move = end_of (edges_of near place) move

  settles : (place : ℕ) → place < length cells → IsSettled near source keys sets place
  settles = settled map cells near source keys sets table pair inside solved

  -- no place but the source has a key below one step
  positive : (place : ℕ) → place < length cells → place ≢ source → 33461 ≤ keys place
  positive place l apart =
      let from = neighbour map cells near source keys sets table pair inside solved place l apart in
      let e = from.1 in
      omega (arith, step_least from.0)

  -- beside the source a key is one step, and comes from the source alone
  from_source : (place : ℕ) (move by : Move) → place < length cells → to place move ≡ source → keys place ≡ offered (edges_of near place) keys by → to place by ≡ source
  from_source place move by l beside e = elim (cases_eq (to place by) source) [
    | inl same ↦ same
    | inr apart ↦
        let end = attaining map cells near source keys sets table pair inside solved place by l e in
        let more = positive (to place by) end.0 apart in
        let most = (settles place l).key.at_most move in
        let none : keys (to place move) ≡ 0 = ap keys beside ∙ source_key map cells near source keys sets table pair inside solved in
        absurd (omega (arith, step_most move, step_least by))
  ]

  -- nothing is brought to the source
  source_empty : (first : Move) → Has (sets source) first → ⊥
  source_empty first has = elim ((settles source inside).set.within first has) [
    | inl b ↦ let e = b.1 in let none = source_key map cells near source keys sets table pair inside solved in absurd (omega (arith, step_least b.0))
    | inr s ↦ absurd (pair.apart source (opposite first) (let w = table.edges.whole in omega arith) s)
  ]

  other_cell : (place : ℕ) → place < length cells → place ≢ source → cell_of cells source ≢ cell_of cells place
  other_cell place l apart e = apart (sym (same_place cells table.numbered.once source place inside l e))

  -- a best path comes to a place from each neighbour from which a step attains its key
  comes : (place : ℕ) (by : Move) → place < length cells → keys place ≡ offered (edges_of near place) keys by
      → ComesBy map (cell_of cells source) (cell_of cells (to place by)) (opposite by) (cell_of cells place) (cost place)
  comes place by l e =
      let end = attaining map cells near source keys sets table pair inside solved place by l e in
      record {
        legal = end.1;
        least = cost (to place by);
        is_least = least_at map cells near source keys sets table pair inside solved (to place by) end.0;
        same = step_cost (keys (to place by)) (keys place) by (keyed map cells near source keys sets table pair inside solved (to place by) end.0) e (small map cells near source keys sets table pair inside solved place l)
            ∙ back_step (cost (to place by)) by;
      }

  local : (place : ℕ) (move : Move) → place < length cells → place ≢ source
      → IsFirstMove map (cell_of cells source) (cell_of cells place) move ↔ IsLocal map (cell_of cells source) (cell_of cells place) (cost place) move
  local place move l apart = first_moves_are_local map (cell_of cells source) (cell_of cells place) (cost place) move (other_cell place l apart) (least_at map cells near source keys sets table pair inside solved place l)

  first_if_has : (bound place : ℕ) (move : Move) → keys place < bound → place < length cells → place ≢ source → Has (sets place) move → IsFirstMove map (cell_of cells source) (cell_of cells place) move
  first_if_has zero place move low l apart has = absurd (omega arith)
  first_if_has (suc bound) place move low l apart has = elim ((settles place l).set.within move has) [
    | inl b ↦
        let e = b.1 in
        let end = attaining map cells near source keys sets table pair inside solved place b.0 l b.1 in
        elim (cases_eq (to place b.0) source) [
          | inl same ↦ absurd (source_empty move (subst (λ p. Has (sets p) move) same b.2))
          | inr away ↦
              let before = first_if_has bound (to place b.0) move (omega (arith, step_least b.0)) end.0 away b.2 in
              (local place move l apart).1 (cell_of cells (to place b.0), opposite b.0, comes place b.0 l b.1, inr ((λ e. other_cell (to place b.0) end.0 away (sym e)), before))
        ]
    | inr s ↦
        let from = neighbour map cells near source keys sets table pair inside solved place l apart in
        let here : to place from.0 ≡ source = from_source place (opposite move) from.0 l s from.1 in
        let kind : step_of from.0 ≡ step_of (opposite move) = same_kind (cell_of cells place) from.0 (opposite move) (cell_of cells source)
        (subst (λ p. IsTarget (cell_of cells place) from.0 (cell_of cells p)) here (onward map cells near source keys sets table pair inside solved place from.0 l (subst (λ p. p < length cells) (sym here) inside)))
        (subst (λ p. IsTarget (cell_of cells place) (opposite move) (cell_of cells p)) s (onward map cells near source keys sets table pair inside solved place (opposite move) l (subst (λ p. p < length cells) (sym s) inside))) in
        let e : keys place ≡ offered (edges_of near place) keys (opposite move) = (let g = from.1 in let h = ap keys (here ∙ sym s) in omega arith) in
        let c = comes place (opposite move) l e in
        (local place move l apart).1 (
          cell_of cells source,
          move,
          subst (λ m. ComesBy map (cell_of cells source) (cell_of cells source) m (cell_of cells place) (cost place)) (opposite-opposite move)
              (subst (λ p. ComesBy map (cell_of cells source) (cell_of cells p) (opposite (opposite move)) (cell_of cells place) (cost place)) s c),
          inl (refl, refl),
        )
  ]

  -- where a best path comes from by one move, a step attains the key
  attained_by : (place : ℕ) (before : Cell) (last : Move) → place < length cells → ComesBy map (cell_of cells source) before last (cell_of cells place) (cost place)
      → (to place (opposite last) < length cells) × (cell_of cells (to place (opposite last)) ≡ before) × (keys place ≡ offered (edges_of near place) keys (opposite last))
  attained_by place before last l c =
      let end = led map cells near source keys sets table pair inside solved place (opposite last) before l (legal_back map before last (cell_of cells place) c.legal) in
      let q : ℕ = to place (opposite last) in
      let least : IsLeastCost map (cell_of cells source) before (Some (cost q)) = subst (λ b. IsLeastCost map (cell_of cells source) b (Some (cost q))) end.1 (least_at map cells near source keys sets table pair inside solved q end.0) in
      let same : c.least ≡ cost q = (let s = same_least map (cell_of cells source) before (Some c.least) (Some (cost q)) c.is_least least in cc) in
      let k : key_of (cost place) ≡ keys place = keyed map cells near source keys sets table pair inside solved place l in
      let j : key_of (cost q) ≡ keys q = keyed map cells near source keys sets table pair inside solved q end.0 in
      let more : key_of (cost place) ≡ key_of c.least + step_of last = ap key_of c.same ∙ key_more c.least last in
      let least_key : key_of c.least ≡ key_of (cost q) = ap key_of same in
      let step : step_of (opposite last) ≡ step_of last = step_of-opposite last in
      (end.0, end.1, omega arith)

  has_if_first : (bound place : ℕ) (move : Move) → keys place < bound → place < length cells → place ≢ source → IsFirstMove map (cell_of cells source) (cell_of cells place) move → Has (sets place) move
  has_if_first zero place move low l apart first = absurd (omega arith)
  has_if_first (suc bound) place move low l apart first =
      let way = (local place move l apart).0 first in
      let at = attained_by place way.0 way.1 l way.2 in
      let e = at.2 in
      elim way.3 [
        | inl begins ↦
            let here : to place (opposite way.1) ≡ source = same_place cells table.numbered.once _ source at.0 inside (at.1 ∙ begins.0) in
            (settles place l).set.started
            (λ other b. source_empty other (subst (λ p. Has (sets p) other) (from_source place (opposite way.1) b.0 l here b.1) b.2)) move (ap (λ m. to place (opposite m)) begins.1 ∙ here)
        | inr goes ↦
            let q : ℕ = to place (opposite way.1) in
            let away : q ≢ source = λ same. goes.0 (sym at.1 ∙ ap (cell_of cells) same) in
            let before : IsFirstMove map (cell_of cells source) (cell_of cells q) move = subst (λ b. IsFirstMove map (cell_of cells source) b move) (sym at.1) goes.1 in
            (settles place l).set.brought move (opposite way.1, at.2, has_if_first bound q move (omega (arith, step_least (opposite way.1))) at.0 away before)
      ]

  pub sets_are_first : (place : ℕ) (move : Move) → place < length cells → place ≢ source → Has (sets place) move ↔ IsFirstMove map (cell_of cells source) (cell_of cells place) move
  sets_are_first place move l apart = (first_if_has (suc (keys place)) place move (omega arith) l apart, has_if_first (suc (keys place)) place move (omega arith) l apart)

  -- each set but the source's has a move
  some_below : (bound place : ℕ) → keys place < bound → place < length cells → place ≢ source → (move : Move) × Has (sets place) move
  some_below zero place low l apart = absurd (omega arith)
  some_below (suc bound) place low l apart =
      let from = neighbour map cells near source keys sets table pair inside solved place l apart in
      let e = from.1 in
      let end = attaining map cells near source keys sets table pair inside solved place from.0 l from.1 in
      elim (cases_eq (to place from.0) source) [
        | inl here ↦ (
          opposite from.0,
          (settles place l).set.started
              (λ other b. source_empty other (subst (λ p. Has (sets p) other) (from_source place from.0 b.0 l here b.1) b.2)) (opposite from.0) (ap (to place) (opposite-opposite from.0) ∙ here),
        )
        | inr away ↦
            let before = some_below bound (to place from.0) (omega (arith, step_least from.0)) end.0 away in
            (before.0, (settles place l).set.brought before.0 (from.0, from.1, before.1))
      ]

  pub some_move : (place : ℕ) → place < length cells → place ≢ source → (move : Move) × Has (sets place) move
  some_move place l apart = some_below (suc (keys place)) place (omega arith) l apart

pub solved_sets_are_first : SolvedSetsAreFirst
solved_sets_are_first map cells near source keys sets table inside solved place move l apart = sets_are_first map cells near source keys sets table table.pairs inside solved place move l apart
