-- Walks by cells and moves are what cursors lead to, and their keys are those of what the walks cost.
use Rattle.std.proofs.Common.{◌≡◌, ◌≢◌, ℕ, zero, suc, ◌+◌, ◌<◌, ◌≤◌, List, [], ◌∷◌, length, slice_index, refl, sym, ap, subst, ◌∙◌, arith}
use Rattle.std.specs.List.{AllPairs}
use Rattle.root_cost.specs.Costs.{no_cost}
use Rattle.root_cost.specs.Keys.{key_of, step_key}
use Rattle.root_cost.proofs.Adding.{key_of-plus_step}
use Rattle.run_pack.specs.declared.Run.{Run}
use Rattle.run_pack.specs.Runs.{Covers, IsRow, IsCoveringMove, move_at, no_run}
use Rattle.run_pack.proofs.Found.{IsLastUpTo-from_covers, same_move}
use Rattle.moves.specs.declared.Cell.{Cell}
use Rattle.moves.specs.declared.Move.{Move}
use Rattle.moves.specs.declared.Move.TheVariants.{N, NE, E, SE, S, SW, W, NW}
use Rattle.moves.specs.Maps.{Map}
use Rattle.moves.specs.Moves.{number_of, is_diagonal, IsLegal}
use Rattle.moves.specs.Paths.{cost_of}
use Rattle.moves.specs.ComponentLaws.{HasJust}
use Rattle.moves.specs.FirstSetLists.{cell_of}
use Rattle.moves.proofs.CostsOfPaths.{cost_of-cons}
use Rattle.moves.proofs.MovesInSets.{move_with}
use Rattle.row_store.specs.Rows.{row_at}
use Rattle.versions.specs.Spelled.{IsKept}
use Rattle.row_check.specs.declared.cursors.Cursor.{Cursor}
use Rattle.row_check.specs.Walks.{AreShaped, WalksTo, IsWalkOf}
use Rattle.row_check.specs.Marking.{AreNear, edges_of, end_of}
use Rattle.row_check.specs.Following.{cursor_of, step_numbered, Arrives, IsKeyOf, CanFollow, AreCursors, IsOver}
use Rattle.row_check.proofs.Edging.{same_place, led, legal_to, end_most}

-- ---- one move

-- one move covers a place
pub covers_once : (row : List Run) (places place a b : ℕ) → IsRow row places → IsCoveringMove row places place a → IsCoveringMove row places place b → a ≡ b
covers_once row places place a b is p q =
    same_move row place a b
    (record { run = p.run; last = IsLastUpTo-from_covers row places place p.run is.rises p.within p.covers; is = p.is })
    (record { run = q.run; last = IsLastUpTo-from_covers row places place q.run is.rises q.within q.covers; is = q.is })

-- the step of a move by its number
pub step_of_number : (move : Move) → step_numbered (number_of move) ≡ step_key (is_diagonal move)
step_of_number N = refl
step_of_number NE = refl
step_of_number E = refl
step_of_number SE = refl
step_of_number S = refl
step_of_number SW = refl
step_of_number W = refl
step_of_number NW = refl

-- one move more has the key of its step more
pub key_of-cons : (move : Move) (moves : List Move) → key_of (cost_of (move ∷ moves)) ≡ key_of (cost_of moves) + step_numbered (number_of move)
key_of-cons move moves =
    ap key_of (cost_of-cons move moves) ∙ key_of-plus_step (cost_of moves) (is_diagonal move)
    ∙ ap (λ s. key_of (cost_of moves) + s) (sym (step_of_number move))

-- ---- walks

module _ (map : Map) (cells : List Cell) (rows : List (List Run)) (just : HasJust map cells) (once : AllPairs (λ a b. a ≢ b) cells) (shaped : AreShaped cells rows)
    (near : List (List ℕ)) (nears : AreNear cells near (length cells)) (cursors : List Cursor) (are : AreCursors rows near cursors)
    (target : ℕ) (inside : target < length cells) (over : (source : ℕ) → source < length cursors → IsOver (cursor_of cursors source) target) where
  long : length cursors ≡ length cells
  long = are.whole ∙ nears.whole

  next : ℕ → ℕ
  next place = (cursor_of cursors place).next

  abbrev row : ℕ → List Run
  row place = row_at rows place

  abbrev run : ℕ → ℕ
  run place = (cursor_of cursors place).run

  run_covers : (place : ℕ) → place < length cells → Covers (row place) (length cells) (run place) target
  run_covers place l =
      let has = (are.each place (let w = nears.whole in omega arith)).has in
      let o = over place (let w = long in omega arith) in
      let from = o.from in
      let upto = o.upto in
      let starts = has.starts in
      let ends = has.ends in
      subst (λ n. Covers (row place) n (run place) target) nears.whole (record { from = omega arith; upto = omega arith })

  run_within : (place : ℕ) → place < length cells → run place < length (row place)
  run_within place l = (are.each place (let w = nears.whole in omega arith)).has.within

  covering : (place : ℕ) → place < length cells → IsCoveringMove (row place) (length cells) target (move_at (row place) (run place))
  covering place l = record { run = run place; within = run_within place l; covers = run_covers place l; is = refl }

  -- the move that the row keeps for the target
  kept : (place : ℕ) → place < length cells → (move : Move) × (number_of move ≡ move_at (row place) (run place))
  kept place l = move_with (move_at (row place) (run place)) (shaped.moves place l (run place) no_run (run_within place l))

  is_kept : (place : ℕ) (l : place < length cells) → IsKept cells rows (cell_of cells place) (cell_of cells target) (kept place l).0
  is_kept place l = record {
    source = place;
    column = target;
    leaves = record { within = l; there = refl };
    arrives = record { within = inside; there = refl };
    covers = subst (IsCoveringMove (row place) (length cells) target) (sym (kept place l).1) (covering place l);
  }

  -- a move that is kept is that one
  only_kept : (place : ℕ) (l : place < length cells) (move : Move) → IsKept cells rows (cell_of cells place) (cell_of cells target) move → number_of move ≡ move_at (row place) (run place)
  only_kept place l move p =
      let source : p.source ≡ place = same_place cells once p.source place p.leaves.within l p.leaves.there in
      let column : p.column ≡ target = same_place cells once p.column target p.arrives.within inside p.arrives.there in
      let moved = subst (λ s. IsCoveringMove (row_at rows s) (length cells) p.column (number_of move)) source p.covers in
      let covers = subst (λ c. IsCoveringMove (row place) (length cells) c (number_of move)) column moved in
      covers_once (row place) (length cells) target (number_of move) (move_at (row place) (run place)) (shaped.each place l) covers (covering place l)

  -- where it leads, and what it costs
  leads_by : (place : ℕ) (l : place < length cells) (move : Move) → number_of move ≡ move_at (row place) (run place) → (cursor_of cursors place).next ≡ end_of (edges_of near place) move
  leads_by place l move is = (are.each place (let w = nears.whole in omega arith)).leads ∙ ap (slice_index (edges_of near place)) (sym is)

  costs_by : (place : ℕ) (l : place < length cells) (move : Move) → number_of move ≡ move_at (row place) (run place) → (cursor_of cursors place).step ≡ step_numbered (number_of move)
  costs_by place l move is = (are.each place (let w = nears.whole in omega arith)).costs ∙ ap step_numbered (sym is)

  -- ---- there and back

  -- a walk, and what its cost has as its key
  pub record HasKeyedWalk (source key : ℕ) : Type 0 where
    pub moves : List Move
    pub walks : IsWalkOf map cells rows source target moves
    pub keyed : key_of (cost_of moves) + 1 ≡ key

  walk_along : (from count key : ℕ) → from < length cells → Arrives cursors target from count key → HasKeyedWalk from key
  walk_along from zero key l p = record { moves = []; walks = ap (cell_of cells) p.0; keyed = (let z : key_of no_cost + 1 ≡ 1 = refl in z ∙ sym p.1) }
  walk_along from (suc count) key l p =
      let on : (cursor_of cursors from).next < length cells = (let w = long in let m = p.1 in omega arith) in
      let later = walk_along (cursor_of cursors from).next count p.2 on p.4 in
      let move = kept from l in
      let led_to = leads_by from l move.0 move.1 in
      let legal : IsLegal map (cell_of cells from) move.0 (cell_of cells (cursor_of cursors from).next) =
      subst (λ n. IsLegal map (cell_of cells from) move.0 (cell_of cells n)) (sym led_to) (legal_to map cells just near nears from move.0 l (subst (λ n. n < length cells) led_to on)) in
      record {
        moves = move.0 ∷ later.moves;
        walks = ((λ same. p.0 (same_place cells once from target l inside same)), is_kept from l, cell_of cells (cursor_of cursors from).next, legal, later.walks);
        keyed = (let more = key_of-cons move.0 later.moves in let rest = later.keyed in let cost = costs_by from l move.0 move.1 in let e = p.3 in omega arith);
      }

  pub walk_of_key : (source key : ℕ) → source < length cells → IsKeyOf cursors target source key → HasKeyedWalk source key
  walk_of_key source key l p = walk_along source p.count key l p.arrives

  arrive_along : (from : ℕ) (moves : List Move) → from < length cells → IsWalkOf map cells rows from target moves
      → (count : ℕ) × Arrives cursors target from count (key_of (cost_of moves) + 1)
  arrive_along from [] l p = (0, (same_place cells once from target l inside p, (let z : key_of no_cost + 1 ≡ 1 = refl in z)))
  arrive_along from (move ∷ moves) l p =
      let is = only_kept from l move p.1 in
      let led_to = leads_by from l move is in
      let there = led map cells just near nears from move p.2 l p.3 in
      let on : (cursor_of cursors from).next < length cells = subst (λ n. n < length cells) (sym led_to) there.0 in
      let cell : p.2 ≡ cell_of cells (cursor_of cursors from).next = sym there.1 ∙ ap (cell_of cells) (sym led_to) in
      let later = arrive_along (cursor_of cursors from).next moves on (subst (λ c. WalksTo map cells rows c moves (cell_of cells target)) cell p.4) in (
        suc later.0,
        ((λ same. p.0 (ap (cell_of cells) same)), (let w = long in omega arith), key_of (cost_of moves) + 1, (let more = key_of-cons move moves in let cost = costs_by from l move is in omega arith), later.1),
      )

  pub key_of_walk : (source : ℕ) (moves : List Move) → source < length cells → IsWalkOf map cells rows source target moves → IsKeyOf cursors target source (key_of (cost_of moves) + 1)
  key_of_walk source moves l p = let a = arrive_along source moves l p in record { count = a.0; arrives = a.1 }

  -- the cursors can be followed
  pub can_follow : length cells ≤ 32768 → CanFollow cursors target
  can_follow few = record {
    few = (let w = long in omega arith);
    inside = (let w = long in omega arith);
    led = λ place l.
        let m : place < length cells = (let w = long in omega arith) in
        let move = kept place m in
        let most = end_most map cells just near nears place move.0 m in
        let led_to = leads_by place m move.0 move.1 in
        (let w = long in omega arith);
    some = λ place l.
        let m : place < length cells = (let w = long in omega arith) in
        let move = kept place m in
        let cost = costs_by place m move.0 move.1 in
        omega arith;
    most = λ place l.
        let m : place < length cells = (let w = long in omega arith) in
        let move = kept place m in
        let cost = costs_by place m move.0 move.1 in
        omega arith;
  }
