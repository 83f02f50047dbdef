-- Neighbours by places: where a move leads among the cells of a component.
use Rattle.std.proofs.Common.{◌≡◌, ◌≢◌, ℕ, ◌+◌, ◌<◌, ◌≤◌, IsTrue, List, [], ◌∷◌, ◌++◌, length, get_or, slice_index, All, Contains, inl, inr, sym, ap, subst, ◌∙◌, arith}
use Rattle.std.specs.List.{AllPairs}
use Rattle.std.proofs.lemmas.Bool.{cases_lt, cases_eq}
use Rattle.std.proofs.lemmas.List.{get_or_default, get_or_append_left}
use Rattle.std.proofs.Math.Seq.{get_or-append_seam}
use Rattle.std.proofs.lemmas.List.Elements.{Contains-get_or, All-contains}
use Rattle.moves.specs.declared.Cell.{Cell}
use Rattle.moves.specs.declared.Move.{Move}
use Rattle.moves.specs.Maps.{Map}
use Rattle.moves.specs.Moves.{is_diagonal, corner, IsTarget, IsLegal}
use Rattle.moves.specs.Rectangles.{Rectangle, IsWithin, IsOnMap, place_in}
use Rattle.moves.specs.ComponentLaws.{HasJust}
use Rattle.moves.specs.FirstSetLists.{cell_of}
use Rattle.row_store.specs.Layout.{ArePlaces}
use Rattle.row_check.specs.Marking.{IsStep, IsEdge, AreNear, edges_of, end_of}

abbrev nowhere : Cell
nowhere = record { x = 0; y = 0 }

-- one cell is one place
pub same_place : (cells : List Cell) → AllPairs (λ a b. a ≢ b) cells → (i j : ℕ) → i < length cells → j < length cells → cell_of cells i ≡ cell_of cells j → i ≡ j
same_place cells once i j p q e = elim (cases_lt i j) [
  | inl l ↦ absurd (once i j nowhere l q e)
  | inr g ↦ elim (cases_lt j i) [ inl l ↦ absurd (once j i nowhere l p (sym e)) | inr h ↦ omega arith ]
]

-- a cell of a list stands at some place
pub place_of_one : (cells : List Cell) (cell : Cell) → Contains cells cell → (place : ℕ) × (place < length cells) × (cell_of cells place ≡ cell)
place_of_one cells cell h = (h.0, h.1, get_or_default cells h.0 nowhere cell h.1 ∙ h.2)

pub one_of_cells : (cells : List Cell) (place : ℕ) → place < length cells → Contains cells (cell_of cells place)
one_of_cells cells place l = Contains-get_or cells place nowhere l

-- ---- where a cell is found

-- a cell that the bounds do not have is none of the cells
pub missing_outside : (cells : List Cell) (area : Rectangle) (places : List ℕ) (cell : Cell) → ArePlaces cells area places → (IsWithin area cell → ⊥) → Contains cells cell → ⊥
missing_outside cells area places cell p outside here = outside (All-contains (IsWithin area) cells cell p.within here)

-- nor is one whose place has no number
pub missing_inside : (cells : List Cell) (area : Rectangle) (places : List ℕ) (cell : Cell) (number : ℕ) → ArePlaces cells area places → length cells ≤ 32768
    → number ≡ slice_index places (place_in area cell) → number ≡ 65535 → Contains cells cell → ⊥
missing_inside cells area places cell number p few is none here =
    let at = place_of_one cells cell here in
    let same : number ≡ at.0 = is ∙ ap (λ c. slice_index places (place_in area c)) (sym at.2) ∙ p.found at.0 at.1 in
    let l = at.1 in
    omega (arith, same, none, l, few)

-- ---- where a move leads, from what the parts of the code find out

pub edge_of : (cells : List Cell) (from : Cell) (by : Move) (to : Cell) (place : ℕ) → All IsOnMap cells → Contains cells from → ((target : Cell) → IsTarget from by target → to ≡ target)
    → (to.x < 4097 → to.y < 4097 → IsTarget from by to) → place ≤ length cells → (place < length cells → cell_of cells place ≡ to) → (place ≡ length cells → Contains cells to → ⊥)
    → (IsTrue (is_diagonal by) → Contains cells (corner from to) × Contains cells (corner to from)) → IsEdge cells from by place
edge_of cells from by to place on_map inside only target most found missing corners = record {
  legal = λ end step.
      let same : to ≡ end = only end step.target in
      let here : Contains cells to = subst (Contains cells) (sym same) step.enters in
      elim (cases_eq place (length cells)) [
        | inl none ↦ absurd (missing none here)
        | inr some ↦ let l : place < length cells = omega arith in (l, found l ∙ same)
      ];
  only = elim (cases_lt place (length cells)) [
    | inr none ↦ inl (omega arith)
    | inl l ↦
        let here : Contains cells (cell_of cells place) = one_of_cells cells place l in
        let there : Contains cells to = subst (Contains cells) (found l) here in
        let on : IsOnMap to = All-contains IsOnMap cells to on_map there in
        let column = on.column in
        let row = on.row in
        inr (l, subst (IsStep cells from by) (sym (found l)) (record { target = target (omega arith) (omega arith); leaves = inside; enters = there; corners = corners }))
  ];
}

-- and where a corner is missing
pub no_edge : (cells : List Cell) (from : Cell) (by : Move) (to : Cell) (place : ℕ) → ((target : Cell) → IsTarget from by target → to ≡ target)
    → IsTrue (is_diagonal by) → ((Contains cells (corner from to) × Contains cells (corner to from)) → ⊥) → place ≡ length cells → IsEdge cells from by place
no_edge cells from by to place only diagonal without e = record {
  legal = λ end step. absurd (without (subst (λ c. Contains cells (corner from c) × Contains cells (corner c from)) (sym (only end step.target)) (step.corners diagonal)));
  only = inl e;
}

-- ---- the table

pub near_none : (cells : List Cell) (near : List (List ℕ)) → length near ≡ 0 → AreNear cells near 0
near_none cells near none = record { whole = none; each = λ place before move. absurd (omega arith) }

pub near_more : (cells : List Cell) (table : List (List ℕ)) (row : List ℕ) (count : ℕ) → AreNear cells table count
    → ((move : Move) → IsEdge cells (cell_of cells count) move (end_of row move)) → (now : List (List ℕ)) → now ≡ table ++ row ∷ [] → length now ≡ count + 1 → AreNear cells now (count + 1)
near_more cells table row count p edge now is size = record {
  whole = size;
  each = λ place l move. rw is (elim (cases_eq place count) [
    | inl same ↦
        let at : get_or (table ++ row ∷ []) place [] ≡ row = ap (λ p. get_or (table ++ row ∷ []) p []) (same ∙ sym p.whole) ∙ get_or-append_seam table row [] [] in
        subst (λ edges. IsEdge cells (cell_of cells place) move (end_of edges move)) (sym at) (subst (λ p. IsEdge cells (cell_of cells p) move (end_of row move)) (sym same) (edge move))
    | inr apart ↦
        let w = p.whole in
        let at : get_or (table ++ row ∷ []) place [] ≡ get_or table place [] = get_or_append_left table (row ∷ []) [] place (omega arith) in
        subst (λ edges. IsEdge cells (cell_of cells place) move (end_of edges move)) (sym at) (p.each place (omega arith) move)
  ]);
}

-- ---- on a map that has just these cells

pub legal_of : (map : Map) (cells : List Cell) → HasJust map cells → (from : Cell) (move : Move) (to : Cell) → IsStep cells from move to → IsLegal map from move to
legal_of map cells just from move to step = record {
  target = step.target;
  leaves = (just.just_these from).1 step.leaves;
  enters = just.one_class from to step.leaves step.enters;
  corners = λ diagonal.
      let c = step.corners diagonal in
      (just.one_class from _ step.leaves c.0, just.one_class from _ step.leaves c.1);
}

pub step_if_legal : (map : Map) (cells : List Cell) → HasJust map cells → (from : Cell) (move : Move) (to : Cell) → IsLegal map from move to → IsStep cells from move to
step_if_legal map cells just from move to legal = record {
  target = legal.target;
  leaves = (just.just_these from).0 legal.leaves;
  enters = (just.just_these to).0 legal.enters.passable;
  corners = λ diagonal. let c = legal.corners diagonal in ((just.just_these _).0 c.0.passable, (just.just_these _).0 c.1.passable);
}

module _ (map : Map) (cells : List Cell) (just : HasJust map cells) (near : List (List ℕ)) (nears : AreNear cells near (length cells)) where
  -- where a legal move from a place leads
  pub led : (place : ℕ) (move : Move) (to : Cell) → place < length cells → IsLegal map (cell_of cells place) move to
      → (end_of (edges_of near place) move < length cells) × (cell_of cells (end_of (edges_of near place) move) ≡ to)
  led place move to l legal = (nears.each place l move).legal to (step_if_legal map cells just (cell_of cells place) move to legal)

  -- a move that leads to a place is legal
  pub legal_to : (place : ℕ) (move : Move) → place < length cells → end_of (edges_of near place) move < length cells
      → IsLegal map (cell_of cells place) move (cell_of cells (end_of (edges_of near place) move))
  legal_to place move l inside = elim (nears.each place l move).only [
    | inl none ↦ absurd (omega arith)
    | inr some ↦ legal_of map cells just (cell_of cells place) move (cell_of cells (end_of (edges_of near place) move)) some.1
  ]

  -- each move leads to a place or nowhere
  pub end_most : (place : ℕ) (move : Move) → place < length cells → end_of (edges_of near place) move ≤ length cells
  end_most place move l = elim (nears.each place l move).only [ inl none ↦ omega arith | inr some ↦ (let s = some.0 in omega arith) ]
