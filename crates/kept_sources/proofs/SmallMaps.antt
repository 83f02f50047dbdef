-- The examples, by what is inside a small map and how far a move leads.
use Rattle.std.proofs.Common.{◌≡◌, ◌≢◌, ◌⊎◌, ℕ, zero, suc, ◌+◌, ◌*◌, ◌<◌, ◌≤◌, true, false, List, [], ◌∷◌, get_or, arith, sym, ap, ◌∙◌, subst, inl, inr, refl}
use Rattle.std.specs.Prelude.{All, Contains}
use Rattle.std.proofs.lemmas.Bool.{false≢true, cases_lt, and_from, lt-ltb, ltb-true, le-leb, eq-eqb}
use Rattle.std.proofs.lemmas.List.Elements.{All-nil, All-cons}
use Rattle.moves.specs.declared.Cell.{Cell}
use Rattle.moves.specs.declared.Move.{Move}
use Rattle.moves.specs.declared.Move.TheVariants.{N, NE, E, SE, S, SW, W, NW}
use Rattle.moves.specs.Maps.{Map, IsInside, IsPassable, is_cell, passable_of}
use Rattle.moves.specs.Moves.{IsTarget, IsLegal}
use Rattle.moves.specs.Paths.{Leads}
use Rattle.moves.specs.FirstSets.{IsFirstMove}
use Rattle.moves.specs.Components.{IsComponent}
use Rattle.moves.proofs.MoveLaws.{same_cell, target_near}
use Rattle.moves.proofs.BestPaths.{first_move_exists}
use Rattle.moves.proofs.Connected.{is_cell-same}
use Rattle.moves.proofs.LawsOfPaths.{one_move}
use Rattle.moves.proofs.StraightPaths.{straight_is_legal}
use Rattle.kept_sources.specs.Parts.{without, without_all}
use Rattle.kept_sources.specs.Balls.{IsBeside, IsRoundAll}
use Rattle.kept_sources.specs.Gates.{IsLeftByGates, IsApart, IsPocket}
use Rattle.kept_sources.specs.Examples.{at, all_land, field, two_cells, round_both, round_less_one, ring, west, third_column, both_beside, three, OnlyEast}
use Rattle.kept_sources.proofs.Closing.{lists_are_taken_out, only_this}
use Rattle.kept_sources.proofs.Splitting.{splits_go_by_one}

-- ---- the ball

two_inside : All (IsInside field) two_cells
two_inside = All-cons (IsInside field) (at 2 2) (at 3 2 ∷ []) (record { column = omega arith; row = omega arith })
    (All-cons (IsInside field) (at 3 2) [] (record { column = omega arith; row = omega arith }) (All-nil (IsInside field)))

-- the cell is one of the two
which : (cell : Cell) → Contains two_cells cell → (cell ≡ at 2 2) ⊎ (cell ≡ at 3 2)
which cell (zero, few, same) = inl (sym same)
which cell (suc zero, few, same) = inr (sym same)
which cell (suc (suc place), few, same) = absurd (omega arith)

beside_two : (cell other : Cell) → IsBeside cell other → cell.y ≡ 2 → 2 ≤ cell.x → cell.x ≤ 3 → round_both other ≡ true
beside_two cell other beside row left right =
    and_from _ _ (le-leb 1 other.x (omega (arith, beside.right)))
    (and_from _ _ (le-leb other.x 4 (omega (arith, beside.left)))
    (and_from _ _ (le-leb 1 other.y (omega (arith, beside.below))) (le-leb other.y 3 (omega (arith, beside.above)))))

pub ball_of_two : IsRoundAll field (without_all field two_cells) round_both
ball_of_two cell other taken free beside =
    elim (which cell (((lists_are_taken_out field two_cells two_inside).taken cell).0 taken).1) [
      | inl same ↦ beside_two cell other beside (ap (λ c. c.y) same) (rw same (omega arith)) (rw same (omega arith))
      | inr same ↦ beside_two cell other beside (ap (λ c. c.y) same) (rw same (omega arith)) (rw same (omega arith))
    ]

pub no_ball_of_two : IsRoundAll field (without_all field two_cells) round_less_one → ⊥
no_ball_of_two round =
    let free : IsPassable field (at 2 2) = record { inside = record { column = omega arith; row = omega arith }; passable = refl } in
    let taken = ((lists_are_taken_out field two_cells two_inside).taken (at 2 2)).1 (free, (0, omega arith, refl)) in
    let left : IsPassable (without_all field two_cells) (at 1 1) = record { inside = record { column = omega arith; row = omega arith }; passable = refl } in
    false≢true (round (at 2 2) (at 1 1) taken left (record {
      left = omega arith;
      right = omega arith;
      above = omega arith;
      below = omega arith;
      apart = λ same. (let column : 1 ≡ 2 = ap (λ c. c.x) same in omega arith);
    }))

-- ---- gates

-- from the first two columns a move leads at most to the third
not_far : (map : Map) (from : Cell) (move : Move) (to : Cell) → west from ≡ true → IsLegal map from move to → to.x ≤ 2
not_far map from move to inside legal =
    let near = target_near from move to legal.target in
    omega (arith, ltb-true from.x 2 inside, near.right)

pub ring_gates : IsApart ring (without ring (at 4 1)) third_column west
ring_gates =
    let changed : IsInside ring (at 4 1) = record { column = omega arith; row = omega arith } in
    record {
      closed = λ from move to inside legal none.
          let apart : to.x ≢ 2 = λ same. false≢true (sym none ∙ eq-eqb to.x 2 same) in
          lt-ltb to.x 2 (omega (arith, not_far ring from move to inside legal));
      side_stays = λ cell inside taken. false≢true (subst (λ c. west c ≡ true) (only_this ring (at 4 1) changed cell taken) inside);
      gates_stay = λ cell there taken. false≢true (subst (λ c. third_column c ≡ true) (only_this ring (at 4 1) changed cell taken) there);
    }

pub diagonal_past : IsLeftByGates (all_land 2 2) both_beside (is_cell (at 0 0)) → ⊥
diagonal_past closed =
    let map = all_land 2 2 in
    let here : IsPassable map (at 0 0) = record { inside = record { column = omega arith; row = omega arith }; passable = refl } in
    let there : IsPassable map (at 1 1) = record { inside = record { column = omega arith; row = omega arith }; passable = refl } in
    let below : IsPassable map (at 0 1) = record { inside = record { column = omega arith; row = omega arith }; passable = refl } in
    let aside : IsPassable map (at 1 0) = record { inside = record { column = omega arith; row = omega arith }; passable = refl } in
    let legal : IsLegal map (at 0 0) SE (at 1 1) = record {
      target = (refl, refl);
      leaves = here;
      enters = record { passable = there; same = refl };
      corners = λ _. (record { passable = below; same = refl }, record { passable = aside; same = refl });
    } in
    false≢true (closed (at 0 0) SE (at 1 1) refl legal refl)

-- ---- the pocket

pub row_pocket : IsPocket (all_land 5 1) (without (all_land 5 1) (at 4 0)) (at 2 0) west
row_pocket =
    let row = all_land 5 1 in
    let changed : IsInside row (at 4 0) = record { column = omega arith; row = omega arith } in
    record {
      closed = λ from move to inside legal none. elim (cases_lt to.x 2) [
        | inl less ↦ lt-ltb to.x 2 less
        | inr more ↦
            let far = not_far row from move to inside legal in
            let low : to.y < 1 = legal.enters.passable.inside.row in
            let same : to ≡ at 2 0 = same_cell to (at 2 0) (omega arith) (omega arith) in
            absurd (false≢true (sym none ∙ is_cell-same (at 2 0) to same))
      ];
      side_stays = λ cell inside taken. false≢true (subst (λ c. west c ≡ true) (only_this row (at 4 0) changed cell taken) inside);
      gates_stay = λ cell there taken. false≢true (subst (λ c. is_cell (at 2 0) c ≡ true) (only_this row (at 4 0) changed cell taken) there);
    }

-- ---- the split

-- from the upper left cell a move within the first row leads to the east
leads_east : (move : Move) (to : Cell) → IsTarget (at 0 0) move to → to.y < 1 → (move ≡ E) × (to ≡ at 1 0)
leads_east N to t low = absurd (omega (arith, t.1))
leads_east NE to t low = absurd (omega (arith, t.1))
leads_east E to t low = (refl, same_cell to (at 1 0) t.0 t.1)
leads_east SE to t low = absurd (omega (arith, t.1))
leads_east S to t low = absurd (omega (arith, t.1))
leads_east SW to t low = absurd (omega (arith, t.1))
leads_east W to t low = absurd (omega (arith, t.0))
leads_east NW to t low = absurd (omega (arith, t.1))

abbrev split : Map
split = without three (at 1 0)

left_free : IsPassable split (at 0 0)
left_free = record { inside = record { column = omega arith; row = omega arith }; passable = refl }

stays_left : (moves : List Move) (to : Cell) → Leads split (at 0 0) moves to → at 0 0 ≡ to
stays_left [] to path = path.1
stays_left (move ∷ moves) to path =
    let enters = path.1.enters.passable in
    let east = leads_east move path.0 path.1.target enters.inside.row in
    let free : IsPassable split (at 1 0) = subst (IsPassable split) east.1 enters in
    absurd (false≢true free.passable)

only_left : (cell : Cell) → Contains (at 0 0 ∷ []) cell → at 0 0 ≡ cell
only_left cell (zero, few, same) = same
only_left cell (suc place, few, same) = absurd (omega arith)

pub left_is_component : IsComponent (without three (at 1 0)) (at 0 0 ∷ [])
left_is_component = record {
  some = omega arith;
  passable = All-cons (IsPassable split) (at 0 0) [] left_free (All-nil (IsPassable split));
  whole = λ from to has.
      let here = only_left from has in (
        λ there. ([], (subst (IsPassable split) here left_free, sym here ∙ only_left to there)),
        λ (moves, path). (0, omega arith, stays_left moves to (subst (λ c. Leads split c moves to) (sym here) path)),
      );
  in_order = λ i j d p q. absurd (omega arith);
}

free_at : (x : ℕ) → x < 3 → get_or (passable_of three) (0 * 3 + x) false ≡ true → IsPassable three (at x 0)
free_at x column free = record { inside = record { column = column; row = omega arith }; passable = free }

to_middle : Leads three (at 0 0) (E ∷ []) (at 1 0)
to_middle = one_move three (at 0 0) (at 1 0) E (straight_is_legal three (at 0 0) E (at 1 0) refl (refl, refl) (free_at 0 (omega arith) refl) (record { passable = free_at 1 (omega arith) refl; same = refl }))

from_middle : Leads three (at 1 0) (E ∷ []) (at 2 0)
from_middle = one_move three (at 1 0) (at 2 0) E (straight_is_legal three (at 1 0) E (at 2 0) refl (refl, refl) (free_at 1 (omega arith) refl) (record { passable = free_at 2 (omega arith) refl; same = refl }))

-- the first set to the middle cell is east alone
first_is_east : (move : Move) → IsFirstMove three (at 0 0) (at 1 0) move → move ≡ E
first_is_east move begun = elim begun [
  | inl here ↦ absurd (let column : 0 ≡ 1 = ap (λ c. c.x) here.0 in omega arith)
  | inr (moves, best) ↦ (leads_east move best.leads.0 best.leads.1.target best.leads.1.enters.passable.inside.row).0
]

east_is_first : IsFirstMove three (at 0 0) (at 1 0) E
east_is_first =
    let some = (first_move_exists three (at 0 0) (at 1 0)).0 (E ∷ [], to_middle) in
    subst (IsFirstMove three (at 0 0) (at 1 0)) (first_is_east some.0 some.1) some.1

pub only_east : OnlyEast
only_east move =
    let inside : IsInside three (at 1 0) = record { column = omega arith; row = omega arith } in
    let apart : Contains (at 0 0 ∷ []) (at 2 0) → ⊥ = λ has. omega (arith, ap (λ (c : Cell). c.x) (only_left (at 2 0) has)) in
    let given = splits_go_by_one three (at 1 0) (at 0 0 ∷ []) inside left_is_component (at 0 0) (at 2 0) (0, omega arith, refl) apart in (
      λ begun. first_is_east move ((given.first move).0 begun).1,
      λ same. (given.first move).1 ((E ∷ [], from_middle), subst (IsFirstMove three (at 0 0) (at 1 0)) (sym same) east_is_first),
    )
