-- The example of best gates: by either gate the way costs two straight moves and two more.
use Rattle.std.proofs.Common.{◌≡◌, ◌≢◌, ◌⊎◌, ℕ, ◌+◌, ◌*◌, ◌<◌, true, false, List, [], ◌∷◌, get_or, arith, sym, ap, ◌∙◌, subst, inl, inr, refl}
use Rattle.std.proofs.lemmas.Bool.{false≢true, cases_Bool, cases_lt, cases_eq, eq-eqb, eqb-true}
use Rattle.root_cost.specs.declared.Cost.{Cost}
use Rattle.root_cost.specs.Costs.{IsAtMost, no_cost, plus_step, pair_of}
use Rattle.root_cost.proofs.Order.{at_most_trans, at_most_same}
use Rattle.root_cost.proofs.Adding.{none_at_most, at_most_step, straight_least_step}
use Rattle.moves.specs.declared.Cell.{Cell}
use Rattle.moves.specs.declared.Move.{Move}
use Rattle.moves.specs.declared.Move.TheVariants.{N, NE, E, SE, S, SW, W, NW}
use Rattle.moves.specs.Maps.{Map, IsPassable, passable_of}
use Rattle.moves.specs.Moves.{is_diagonal, corner, IsTarget, IsLegal}
use Rattle.moves.specs.Paths.{Leads, cost_of, IsBest}
use Rattle.moves.specs.FirstSets.{IsFirstMove}
use Rattle.moves.proofs.CostsOfPaths.{cost_of-cons}
use Rattle.moves.proofs.MoveLaws.{same_cell, target_near}
use Rattle.moves.proofs.LawsOfPaths.{one_move, leads_to}
use Rattle.moves.proofs.StraightPaths.{straight_is_legal}
use Rattle.kept_sources.specs.Gates.{IsLeftByGates, CostsBy, IsBestGate}
use Rattle.kept_sources.specs.Examples.{at, small_ring, first_column, second_column, NorthAndSouth}
use Rattle.kept_sources.proofs.Onward.{given_by_gates}
use Rattle.kept_sources.proofs.OneGate.{one_cost_by}

-- ---- two straight moves

-- a path of two moves or more costs at least two straight ones
two_at_least : (move next : Move) (moves : List Move) → IsAtMost (pair_of 2 0) (cost_of (move ∷ next ∷ moves))
two_at_least move next moves =
    let one = cost_of moves in
    let inner : IsAtMost (plus_step no_cost false) (plus_step one (is_diagonal next)) =
    at_most_trans _ _ _ (at_most_step no_cost one false (none_at_most one)) (straight_least_step one (is_diagonal next)) in
    let more = plus_step one (is_diagonal next) in
    let outer : IsAtMost (pair_of 2 0) (plus_step more (is_diagonal move)) =
    at_most_trans _ _ _ (at_most_step (plus_step no_cost false) more false inner) (straight_least_step more (is_diagonal move)) in
    subst (IsAtMost (pair_of 2 0)) (sym (cost_of-cons move (next ∷ moves) ∙ ap (λ c. plus_step c (is_diagonal move)) (cost_of-cons next moves))) outer

-- so two straight moves are best between two cells that no one move connects
two_are_best : (map : Map) (a b : Cell) (first second : Move) → cost_of (first ∷ second ∷ []) ≡ pair_of 2 0 → a ≢ b
    → ((move : Move) → IsLegal map a move b → ⊥) → Leads map a (first ∷ second ∷ []) b → IsBest map a (first ∷ second ∷ []) b
two_are_best map a b first second two apart none path = record {
  leads = path;
  least = λ others way. at_most_trans _ _ _ (at_most_same (cost_of (first ∷ second ∷ [])) (pair_of 2 0) two) (longer others way);
}
  where
    longer : (others : List Move) → Leads map a others b → IsAtMost (pair_of 2 0) (cost_of others)
    longer [] way = absurd (apart way.1)
    longer (move ∷ []) way = absurd (none move (subst (IsLegal map a move) way.2.1 way.1))
    longer (move ∷ next ∷ moves) way = two_at_least move next moves

-- a straight move stays in its column or in its row
one_changes : (a : Cell) (move : Move) (b : Cell) → IsTarget a move b → is_diagonal move ≡ false → (a.x ≡ b.x) ⊎ (a.y ≡ b.y)
one_changes a N b t straight = inl (sym t.0)
one_changes a NE b t straight = absurd (false≢true (sym straight))
one_changes a E b t straight = inr (sym t.1)
one_changes a SE b t straight = absurd (false≢true (sym straight))
one_changes a S b t straight = inl (sym t.0)
one_changes a SW b t straight = absurd (false≢true (sym straight))
one_changes a W b t straight = inr (sym t.1)
one_changes a NW b t straight = absurd (false≢true (sym straight))

-- ---- the ring

middle_is_blocked : IsPassable small_ring (at 1 1) → ⊥
middle_is_blocked free = false≢true free.passable

-- no one move connects two cells in different columns and rows, where the middle is between them
no_one_move : (a b : Cell) → a.x ≢ b.x → a.y ≢ b.y → (corner a b ≡ at 1 1) ⊎ (corner b a ≡ at 1 1)
    → (move : Move) → IsLegal small_ring a move b → ⊥
no_one_move a b columns rows between move legal = elim (cases_Bool (is_diagonal move)) [
  | inr straight ↦ elim (one_changes a move b legal.target straight) [ inl column ↦ columns column | inr row ↦ rows row ]
  | inl diagonal ↦ elim between [
    | inl here ↦ middle_is_blocked (subst (IsPassable small_ring) here (legal.corners diagonal).0.passable)
    | inr here ↦ middle_is_blocked (subst (IsPassable small_ring) here (legal.corners diagonal).1.passable)
  ]
]

free_at : (x y : ℕ) → x < 3 → y < 3 → get_or (passable_of small_ring) (y * 3 + x) false ≡ true → IsPassable small_ring (at x y)
free_at x y column row free = record { inside = record { column = column; row = row }; passable = free }

north_west : IsPassable small_ring (at 0 0)
north_west = free_at 0 0 (omega arith) (omega arith) refl

north : IsPassable small_ring (at 1 0)
north = free_at 1 0 (omega arith) (omega arith) refl

north_east : IsPassable small_ring (at 2 0)
north_east = free_at 2 0 (omega arith) (omega arith) refl

from_west : IsPassable small_ring (at 0 1)
from_west = free_at 0 1 (omega arith) (omega arith) refl

to_east : IsPassable small_ring (at 2 1)
to_east = free_at 2 1 (omega arith) (omega arith) refl

south_west : IsPassable small_ring (at 0 2)
south_west = free_at 0 2 (omega arith) (omega arith) refl

south : IsPassable small_ring (at 1 2)
south = free_at 1 2 (omega arith) (omega arith) refl

south_east : IsPassable small_ring (at 2 2)
south_east = free_at 2 2 (omega arith) (omega arith) refl

to_north : IsBest small_ring (at 0 1) (N ∷ E ∷ []) (at 1 0)
to_north = two_are_best small_ring (at 0 1) (at 1 0) N E refl (λ same. omega (arith, ap (λ (c : Cell). c.x) same))
    (no_one_move (at 0 1) (at 1 0) (λ same. omega (arith, same)) (λ same. omega (arith, same)) (inr refl)) (
      at 0 0,
      straight_is_legal small_ring (at 0 1) N (at 0 0) refl (refl, refl) from_west (record { passable = north_west; same = refl }),
      one_move small_ring (at 0 0) (at 1 0) E (straight_is_legal small_ring (at 0 0) E (at 1 0) refl (refl, refl) north_west (record { passable = north; same = refl })),
    )

to_south : IsBest small_ring (at 0 1) (S ∷ E ∷ []) (at 1 2)
to_south = two_are_best small_ring (at 0 1) (at 1 2) S E refl (λ same. omega (arith, ap (λ (c : Cell). c.x) same))
    (no_one_move (at 0 1) (at 1 2) (λ same. omega (arith, same)) (λ same. omega (arith, same)) (inr refl)) (
      at 0 2,
      straight_is_legal small_ring (at 0 1) S (at 0 2) refl (refl, refl) from_west (record { passable = south_west; same = refl }),
      one_move small_ring (at 0 2) (at 1 2) E (straight_is_legal small_ring (at 0 2) E (at 1 2) refl (refl, refl) south_west (record { passable = south; same = refl })),
    )

on_from_north : IsBest small_ring (at 1 0) (E ∷ S ∷ []) (at 2 1)
on_from_north = two_are_best small_ring (at 1 0) (at 2 1) E S refl (λ same. omega (arith, ap (λ (c : Cell). c.x) same))
    (no_one_move (at 1 0) (at 2 1) (λ same. omega (arith, same)) (λ same. omega (arith, same)) (inl refl)) (
      at 2 0,
      straight_is_legal small_ring (at 1 0) E (at 2 0) refl (refl, refl) north (record { passable = north_east; same = refl }),
      one_move small_ring (at 2 0) (at 2 1) S (straight_is_legal small_ring (at 2 0) S (at 2 1) refl (refl, refl) north_east (record { passable = to_east; same = refl })),
    )

on_from_south : IsBest small_ring (at 1 2) (E ∷ N ∷ []) (at 2 1)
on_from_south = two_are_best small_ring (at 1 2) (at 2 1) E N refl (λ same. omega (arith, ap (λ (c : Cell). c.x) same))
    (no_one_move (at 1 2) (at 2 1) (λ same. omega (arith, same)) (λ same. omega (arith, same)) (inl refl)) (
      at 2 2,
      straight_is_legal small_ring (at 1 2) E (at 2 2) refl (refl, refl) south (record { passable = south_east; same = refl }),
      one_move small_ring (at 2 2) (at 2 1) N (straight_is_legal small_ring (at 2 2) N (at 2 1) refl (refl, refl) south_east (record { passable = to_east; same = refl })),
    )

-- ---- the gates

left_by_column : IsLeftByGates small_ring second_column first_column
left_by_column from move to inside legal none =
    let near = target_near from move to legal.target in
    let apart : to.x ≢ 1 = λ same. false≢true (sym none ∙ eq-eqb to.x 1 same) in
    eq-eqb to.x 0 (omega (arith, eqb-true from.x 0 inside, near.right))

by_north : CostsBy small_ring small_ring (at 0 1) (at 1 0) (at 2 1) (pair_of 4 0)
by_north = (pair_of 2 0, pair_of 2 0, (N ∷ E ∷ [], to_north, refl), (E ∷ S ∷ [], on_from_north, refl), refl)

by_south : CostsBy small_ring small_ring (at 0 1) (at 1 2) (at 2 1) (pair_of 4 0)
by_south = (pair_of 2 0, pair_of 2 0, (S ∷ E ∷ [], to_south, refl), (E ∷ N ∷ [], on_from_south, refl), refl)

which_gate : (by : Cell) → second_column by ≡ true → IsPassable small_ring by → (by ≡ at 1 0) ⊎ (by ≡ at 1 2)
which_gate by gate free =
    let column : by.x ≡ 1 = eqb-true by.x 1 gate in
    let low = free.inside.row in
    elim (cases_eq by.y 1) [
      | inl row ↦ absurd (middle_is_blocked (subst (IsPassable small_ring) (same_cell by (at 1 1) column row) free))
      | inr other ↦ elim (cases_lt by.y 1) [
        | inl less ↦ inl (same_cell by (at 1 0) column (omega arith))
        | inr more ↦ inr (same_cell by (at 1 2) column (omega arith))
      ]
    ]

-- by either gate the way costs four straight moves
four_by_each : (by : Cell) (cost : Cost) → second_column by ≡ true → CostsBy small_ring small_ring (at 0 1) by (at 2 1) cost → cost ≡ pair_of 4 0
four_by_each by cost gate costs =
    elim (which_gate by gate (leads_to small_ring (at 0 1) by costs.2.0 costs.2.1.leads)) [
      | inl same ↦ one_cost_by small_ring (at 0 1) (at 1 0) (at 2 1) cost (pair_of 4 0) (subst (λ c. CostsBy small_ring small_ring (at 0 1) c (at 2 1) cost) same costs) by_north
      | inr same ↦ one_cost_by small_ring (at 0 1) (at 1 2) (at 2 1) cost (pair_of 4 0) (subst (λ c. CostsBy small_ring small_ring (at 0 1) c (at 2 1) cost) same costs) by_south
    ]

best_gate : (by : Cell) → second_column by ≡ true → CostsBy small_ring small_ring (at 0 1) by (at 2 1) (pair_of 4 0)
    → IsBestGate small_ring small_ring second_column (at 0 1) (at 2 1) by (pair_of 4 0)
best_gate by gate costs = record {
  is_gate = gate;
  costs = costs;
  least = λ other more also way. at_most_same (pair_of 4 0) more (sym (four_by_each other more also way));
}

-- from the west cell a move leads to the north or to the south
north_or_south : (move : Move) (to : Cell) → IsLegal small_ring (at 0 1) move to → (move ≡ N) ⊎ (move ≡ S)
north_or_south N to legal = inl refl
north_or_south NE to legal =
    absurd (middle_is_blocked (subst (IsPassable small_ring) (same_cell (corner to (at 0 1)) (at 1 1) legal.target.0 refl) (legal.corners refl).1.passable))
north_or_south E to legal =
    absurd (middle_is_blocked (subst (IsPassable small_ring) (same_cell to (at 1 1) legal.target.0 legal.target.1) legal.enters.passable))
north_or_south SE to legal =
    absurd (middle_is_blocked (subst (IsPassable small_ring) (same_cell (corner to (at 0 1)) (at 1 1) legal.target.0 refl) (legal.corners refl).1.passable))
north_or_south S to legal = inr refl
north_or_south SW to legal = absurd (omega (arith, legal.target.0))
north_or_south W to legal = absurd (omega (arith, legal.target.0))
north_or_south NW to legal = absurd (omega (arith, legal.target.0))

pub both_ways : NorthAndSouth
both_ways move =
    let given = given_by_gates small_ring second_column first_column left_by_column (at 0 1) (at 2 1) refl refl refl in (
      λ begun. elim begun [
        | inl here ↦ absurd (omega (arith, ap (λ (c : Cell). c.x) here.0))
        | inr (moves, best) ↦ north_or_south move best.leads.0 best.leads.1
      ],
      λ one. elim one [
        | inl same ↦ subst (IsFirstMove small_ring (at 0 1) (at 2 1)) (sym same)
            ((given.first N).1 (at 1 0, pair_of 4 0, best_gate (at 1 0) refl by_north, inr (E ∷ [], to_north)))
        | inr same ↦ subst (IsFirstMove small_ring (at 0 1) (at 2 1)) (sym same)
            ((given.first S).1 (at 1 2, pair_of 4 0, best_gate (at 1 2) refl by_south, inr (E ∷ [], to_south)))
      ],
    )
