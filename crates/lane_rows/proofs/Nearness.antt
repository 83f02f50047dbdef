-- Tables of neighbours: where moves lead, and back.
use Rattle.std.proofs.Common.{◌≡◌, ℕ, ◌+◌, ◌<◌, ◌≤◌, IsTrue, List, [], ◌∷◌, ◌++◌, length, get_or, All, Contains, inl, inr, sym, ap, subst, ◌∙◌, arith}
use Rattle.std.proofs.lemmas.Bool.{cases_lt, cases_eq}
use Rattle.std.proofs.lemmas.List.{get_or_default, get_or_append_left}
use Rattle.std.proofs.Math.Seq.{get_or-append_seam}
use Rattle.std.proofs.lemmas.List.Elements.{Contains-get_or, All-contains, All-push}
use Rattle.moves.specs.declared.Cell.{Cell}
use Rattle.moves.specs.declared.Move.{Move}
use Rattle.moves.specs.declared.Move.TheVariants.{N, NE, E, SE, S, SW, W, NW}
use Rattle.moves.specs.Moves.{is_diagonal, opposite, corner, IsTarget}
use Rattle.moves.proofs.MoveLaws.{is_diagonal-opposite, target_back}
use Rattle.moves.proofs.MovesInSets.{move_with}
use Rattle.moves.specs.FirstSetLists.{cell_of}
use Rattle.lane_rows.specs.Tables.{IsMutual, IsStep, IsEdge, IsNumbered, AreNear, edges_of, end_of}
use Rattle.lane_rows.proofs.Indexing.{same_place}

-- where a move leads, from what the parts of the code find out
pub edge_of : (cells : List Cell) (from : Cell) (by : Move) (to : Cell) (place : ℕ) → IsNumbered cells → Contains cells from → ((target : Cell) → IsTarget from by target → to ≡ target)
    → (to.x < 4097 → to.y < 4097 → IsTarget from by to) → place ≤ length cells → (place < length cells → cell_of cells place ≡ to) → (place ≡ length cells → Contains cells to → ⊥)
    → (IsTrue (is_diagonal by) → Contains cells (corner from to) × Contains cells (corner to from)) → IsEdge cells from by place
edge_of cells from by to place numbered inside only target most found missing corners = record {
  legal = λ end step.
      let same : to ≡ end = only end step.target in
      let here : Contains cells to = subst (Contains cells) (sym same) step.enters in
      elim (cases_eq place (length cells)) [
        | inl none ↦ absurd (missing none here)
        | inr some ↦ let l : place < length cells = omega arith in (l, found l ∙ same)
      ];
  only = elim (cases_lt place (length cells)) [
    | inr none ↦ inl (omega arith)
    | inl l ↦
        let here : Contains cells (cell_of cells place) = Contains-get_or cells place (record { x = 0; y = 0 }) l in
        let there : Contains cells to = subst (Contains cells) (found l) here in
        let column : to.x < 4096 = All-contains (λ c. c.x < 4096) cells to numbered.columns there in
        let row : to.y < 4096 = All-contains (λ c. c.y < 4096) cells to numbered.rows there in
        inr (l, subst (IsStep cells from by) (sym (found l)) (record { target = target (omega arith) (omega arith); leaves = inside; enters = there; corners = corners }))
  ];
}

-- and where a corner is missing
pub no_edge : (cells : List Cell) (from : Cell) (by : Move) (to : Cell) (place : ℕ) → ((target : Cell) → IsTarget from by target → to ≡ target)
    → IsTrue (is_diagonal by) → ((Contains cells (corner from to) × Contains cells (corner to from)) → ⊥) → place ≡ length cells → IsEdge cells from by place
no_edge cells from by to place only diagonal without e = record {
  legal = λ end step. absurd (without (subst (λ c. Contains cells (corner from c) × Contains cells (corner c from)) (sym (only end step.target)) (step.corners diagonal)));
  only = inl e;
}

no_target_itself : (a : Cell) (move : Move) → IsTarget a move a → ⊥
no_target_itself a N h = let u = h.1 in omega arith
no_target_itself a NE h = let u = h.1 in omega arith
no_target_itself a E h = let u = h.0 in omega arith
no_target_itself a SE h = let u = h.1 in omega arith
no_target_itself a S h = let u = h.1 in omega arith
no_target_itself a SW h = let u = h.1 in omega arith
no_target_itself a W h = let u = h.0 in omega arith
no_target_itself a NW h = let u = h.1 in omega arith

-- the way back is a step
pub step_back : (cells : List Cell) (from : Cell) (move : Move) (to : Cell) → IsStep cells from move to → IsStep cells to (opposite move) from
step_back cells from move to step = record {
  target = target_back from move to step.target;
  leaves = step.enters;
  enters = step.leaves;
  corners = λ diagonal. let free = step.corners (rw (is_diagonal-opposite move) at diagonal) in (free.1, free.0);
}

pub mutual_if_near : (cells : List Cell) (near : List (List ℕ)) → IsNumbered cells → AreNear cells near → All (λ edges. length edges ≡ 8) near → IsMutual near
mutual_if_near cells near numbered nears eight = record {
  within = λ place d l k e m.
      let eights : length (get_or near place d) ≡ 8 = eight place d l in
      let numbered_move = move_with k (omega arith) in
      let same : get_or near place d ≡ get_or near place [] = get_or_default near place d [] l in
      let edge = nears.each place numbered_move.0 (let w = nears.whole in omega arith) in
      let low : end_of (edges_of near place) numbered_move.0 ≤ length near = elim edge.only [ inl h ↦ (let w = nears.whole in omega arith) | inr h ↦ (let w = nears.whole in let g = h.0 in omega arith) ] in
      let is : get_or (get_or near place d) k e ≡ end_of (edges_of near place) numbered_move.0 =
      get_or_default (get_or near place d) k e 0 m ∙ ap (λ edges. get_or edges k 0) same ∙ ap (λ j. get_or (get_or near place []) j 0) (sym numbered_move.1) in
      omega arith;
  apart = λ place move l same. elim (nears.each place move (let w = nears.whole in omega arith)).only [
    | inl h ↦ (let w = nears.whole in omega arith)
    | inr h ↦ no_target_itself (cell_of cells place) move (subst (λ p. IsTarget (cell_of cells place) move (cell_of cells p)) same h.1.target)
  ];
  back = λ place move l inside. elim (nears.each place move (let w = nears.whole in omega arith)).only [
    | inl h ↦ absurd (let w = nears.whole in omega arith)
    | inr h ↦
        let there = nears.each (end_of (edges_of near place) move) (opposite move) h.0 in
        let home = there.legal (cell_of cells place) (step_back cells (cell_of cells place) move (cell_of cells (end_of (edges_of near place) move)) h.1) in
        same_place cells numbered.once _ place home.0 (let w = nears.whole in omega arith) home.1
  ];
}

-- one row more
pub near_more : (cells : List Cell) (table : List (List ℕ)) (row : List ℕ) (count : ℕ) → length table ≡ count → All (λ edges. length edges ≡ 8) table
    → ((place : ℕ) (move : Move) → place < count → IsEdge cells (cell_of cells place) move (end_of (edges_of table place) move))
    → length row ≡ 8 → ((move : Move) → IsEdge cells (cell_of cells count) move (end_of row move))
    → All (λ edges. length edges ≡ 8) (table ++ row ∷ []) × ((place : ℕ) (move : Move) → place < count + 1 → IsEdge cells (cell_of cells place) move (end_of (edges_of (table ++ row ∷ []) place) move))
near_more cells table row count long eight each more edge = (
  All-push (λ edges. length edges ≡ 8) table row eight more,
  λ place move l. elim (cases_eq place count) [
    | inl same ↦
        let at : get_or (table ++ row ∷ []) place [] ≡ row = ap (λ p. get_or (table ++ row ∷ []) p []) (same ∙ sym long) ∙ get_or-append_seam table row [] [] in
        subst (λ edges. IsEdge cells (cell_of cells place) move (end_of edges move)) (sym at) (subst (λ p. IsEdge cells (cell_of cells p) move (end_of row move)) (sym same) (edge move))
    | inr apart ↦
        let at : get_or (table ++ row ∷ []) place [] ≡ get_or table place [] = get_or_append_left table (row ∷ []) [] place (omega arith) in
        subst (λ edges. IsEdge cells (cell_of cells place) move (end_of edges move)) (sym at) (each place move (omega arith))
  ],
)

pub mutual_at_end : (cells : List Cell) (near : List (List ℕ)) (count : ℕ) → IsNumbered cells → length near ≡ count → count ≡ length cells → All (λ edges. length edges ≡ 8) near
    → ((place : ℕ) (move : Move) → place < count → IsEdge cells (cell_of cells place) move (end_of (edges_of near place) move)) → IsMutual near
mutual_at_end cells near count numbered long all eight each =
    mutual_if_near cells near numbered (record { whole = long ∙ all; each = λ place move l. each place move (omega arith) }) eight
