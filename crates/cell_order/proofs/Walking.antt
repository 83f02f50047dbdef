-- The walk with a stack: the cells on it are those that wait to be visited, the top one first.
use Rattle.std.proofs.Common.{◌≡◌, ◌≢◌, ◌+◌, ◌-◌, ◌*◌, ◌⊎◌, ◌↔◌, true, false, not, List, [], ◌∷◌, ◌++◌, length, reverse, refl, sym, ap, ◌∙◌, subst, inl, inr, arith}
use Rattle.std.specs.List.{AllPairs, Contains}
use Rattle.std.proofs.lemmas.Bool.{cases_Bool, both_ways, cond-false, and_from, and_left, and_right, not_from_true, not_from_false, false_from_ne_true, ne_eqb}
use Rattle.std.proofs.lemmas.List.{length-set, reverse-append, reverse-reverse}
use Rattle.std.proofs.lemmas.List.Elements.{Contains-append_left, Contains-append_right, Contains-push, Contains-push_cases, Contains-get_or}
use Rattle.std.proofs.lemmas.List.Quantifiers.{all_pairs_push}
use Rattle.std.proofs.lemmas.List.Sorted.{IsPermutation-reverse, Contains-permutation}
use Rattle.moves.specs.declared.Cell.{Cell}
use Rattle.moves.specs.declared.Move.{Move}
use Rattle.moves.specs.declared.Move.TheVariants.{N, NE, E, SE, S, SW, W, NW}
use Rattle.moves.specs.Moves.{is_diagonal, IsTarget}
use Rattle.moves.specs.Components.{first_of}
use Rattle.moves.specs.StraightPaths.{GoesThrough, IsConnected}
use Rattle.moves.specs.Rectangles.{place_in}
use Rattle.moves.proofs.MoveLaws.{same_cell}
use Rattle.moves.specs.Maps.{has_cell}
use Rattle.moves.proofs.Connected.{Contains-from_has_cell, has_cell-from_contains}
use Rattle.cell_order.specs.Orders.{is_new, north, west, cells_beside}
use Rattle.cell_order.specs.Boxes.{Box, IsMarked, with_mark}
use Rattle.cell_order.proofs.Boxing.{marked_fewer}
use Rattle.cell_order.proofs.Visiting.{Visits, nothing, passes, enters, parted}

-- what the walk keeps
pub record IsWalk (cells : List Cell) (box : Box) (order pending : List Cell) : Type 0 where
  pub size : length box.marks ≡ box.area.width * box.area.height
  pub marked : (c : Cell) → IsMarked box c ↔ (Contains cells c × (Contains order c → ⊥))
  pub inside : (c : Cell) → Contains order c → Contains cells c
  pub apart : AllPairs (λ a b. a ≢ b) order
  pub path : (after : List Cell) → Visits cells (reverse pending) order after → Visits cells (first_of cells ∷ []) [] after
  pub closed : (c d : Cell) → Contains order c → Contains (cells_beside c) d → Contains cells d → Contains order d ⊎ Contains pending d
  pub first : Contains order (first_of cells) ⊎ Contains pending (first_of cells)

pub contains_nothing : (c : Cell) → Contains [] c → ⊥
contains_nothing c h = let l = h.1 in omega arith

contains_first : (c : Cell) → Contains (c ∷ []) c
contains_first c = (0, omega arith, refl)

pub walk_start : (cells : List Cell) (box : Box) (first : Cell) → length box.marks ≡ box.area.width * box.area.height
    → ((c : Cell) → IsMarked box c ↔ Contains cells c) → first ≡ first_of cells → IsWalk cells box [] (first ∷ [])
walk_start cells box first size marked same = record {
  size = size;
  marked = λ c. ((λ m. ((marked c).0 m, contains_nothing c)), λ h. (marked c).1 h.0);
  inside = λ c h. absurd (contains_nothing c h);
  apart = λ i j d less within. absurd (omega arith);
  path = λ after v. subst (λ c. Visits cells (c ∷ []) [] after) same v;
  closed = λ c d h b i. absurd (contains_nothing c h);
  first = inr (subst (Contains (first ∷ [])) same (contains_first first));
}

module _ (cells : List Cell) (box : Box) (order pending rest : List Cell) (cell : Cell)
    (p : IsWalk cells box order pending) (popped : pending ≡ rest ++ cell ∷ []) (some : Contains cells (first_of cells)) where
  on_top : reverse pending ≡ cell ∷ reverse rest
  on_top = ap reverse popped ∙ reverse-append rest (cell ∷ [])

  -- a cell that is no longer marked changes nothing
  module _ (stale : IsMarked box cell → ⊥) where
    seen_or_foreign : Contains cells cell → Contains order cell
    seen_or_foreign inside =
        elim (cases_Bool (has_cell order cell)) [
          | inl seen ↦ Contains-from_has_cell order cell seen
          | inr unseen ↦ absurd (stale ((p.marked cell).1 (inside, λ h. both_ways (has_cell order cell) unseen (has_cell-from_contains order cell h))))
        ]

    not_new : is_new cells order cell ≡ false
    not_new =
        elim (cases_Bool (has_cell cells cell)) [
          | inl inside ↦
              let seen = has_cell-from_contains order cell (seen_or_foreign (Contains-from_has_cell cells cell inside)) in
              and_right (has_cell cells cell) (not (has_cell order cell)) (not_from_true (has_cell order cell) seen)
          | inr foreign ↦ and_left (has_cell cells cell) (not (has_cell order cell)) foreign
        ]

    waits_still : (d : Cell) → Contains cells d → Contains order d ⊎ Contains pending d → Contains order d ⊎ Contains rest d
    waits_still d inside before =
        elim before [
          | inl seen ↦ inl seen
          | inr waits ↦
              elim (Contains-push_cases rest cell d (subst (λ xs. Contains xs d) popped waits)) [
                | inl deeper ↦ inr deeper
                | inr top ↦ inl (subst (Contains order) top (seen_or_foreign (subst (Contains cells) (sym top) inside)))
              ]
        ]

    pub walk_skip : IsWalk cells box order rest
    walk_skip = record {
      size = p.size;
      marked = p.marked;
      inside = p.inside;
      apart = p.apart;
      path = λ after v. p.path after (rw on_top (passes not_new v));
      closed = λ c d seen near inside. waits_still d inside (p.closed c d seen near inside);
      first = waits_still (first_of cells) some p.first;
    }

  -- a marked cell is visited
  module _ (marked : IsMarked box cell) where
    unseen : Contains order cell → ⊥
    unseen = ((p.marked cell).0 marked).1

    of_cells : Contains cells cell
    of_cells = ((p.marked cell).0 marked).0

    new : is_new cells order cell ≡ true
    new = and_from (has_cell cells cell) (not (has_cell order cell)) (has_cell-from_contains cells cell of_cells)
        (not_from_false (has_cell order cell) (false_from_ne_true (has_cell order cell) (λ h. unseen (Contains-from_has_cell order cell h))))

    on_top_next : reverse (rest ++ reverse (cells_beside cell)) ≡ cells_beside cell ++ reverse rest
    on_top_next = reverse-append rest (reverse (cells_beside cell)) ∙ ap (λ xs. xs ++ reverse rest) (reverse-reverse (cells_beside cell))

    waits_or_seen : (d : Cell) → Contains order d ⊎ Contains pending d
        → Contains (order ++ cell ∷ []) d ⊎ Contains (rest ++ reverse (cells_beside cell)) d
    waits_or_seen d before =
        elim before [
          | inl seen ↦ inl (Contains-append_left order (cell ∷ []) d seen)
          | inr waits ↦
              elim (Contains-push_cases rest cell d (subst (λ xs. Contains xs d) popped waits)) [
                | inl deeper ↦ inr (Contains-append_left rest (reverse (cells_beside cell)) d deeper)
                | inr top ↦ inl (subst (Contains (order ++ cell ∷ [])) top (Contains-push order cell))
              ]
        ]

    pub walk_enter : IsWalk cells (with_mark box cell false) (order ++ cell ∷ []) (rest ++ reverse (cells_beside cell))
    walk_enter = record {
      size = length-set box.marks (place_in box.area cell) false ∙ p.size;
      marked = λ c. (
        λ m.
            let before = (marked_fewer box cell c p.size marked.within).0 m in
            let old = (p.marked c).0 before.0 in
            (old.0, λ h. elim (Contains-push_cases order cell c h) [ inl seen ↦ old.1 seen | inr same ↦ before.1 (sym same) ]),
        λ h.
            (marked_fewer box cell c p.size marked.within).1 (
              (p.marked c).1 (h.0, λ seen. h.1 (Contains-append_left order (cell ∷ []) c seen)),
              λ same. h.1 (subst (Contains (order ++ cell ∷ [])) (sym same) (Contains-push order cell)),
            ),
      );
      inside = λ c h. elim (Contains-push_cases order cell c h) [ inl seen ↦ p.inside c seen | inr same ↦ subst (Contains cells) same of_cells ];
      apart = all_pairs_push (λ a b. a ≢ b) order cell p.apart (λ k d less same. unseen (subst (Contains order) same (Contains-get_or order k d less)));
      path = λ after v.
          let parts = parted cells (cells_beside cell) (reverse rest) (order ++ cell ∷ []) after (rw on_top_next at v) in
          p.path after (rw on_top (enters new parts.1 parts.2));
      closed = λ c d seen near inside.
          elim (Contains-push_cases order cell c seen) [
            | inl earlier ↦ waits_or_seen d (p.closed c d earlier near inside)
            | inr same ↦
                let here : Contains (cells_beside cell) d = subst (λ e. Contains (cells_beside e) d) (sym same) near in
                inr (Contains-append_right rest (reverse (cells_beside cell)) d
                (Contains-permutation (cells_beside cell) (reverse (cells_beside cell)) d (IsPermutation-reverse (cells_beside cell)) here))
          ];
      first = waits_or_seen (first_of cells) p.first;
    }

-- a straight move ends at a cell beside the one where it begins
pub beside_target : (a : Cell) (move : Move) (b : Cell) → is_diagonal move ≡ false → IsTarget a move b → Contains (cells_beside a) b
beside_target a N b straight t =
    let row : a.y ≡ 0 → ⊥ = λ e. let u = t.1 in omega arith in
    let n : Cell = record { x = a.x; y = a.y - 1 } in
    let is : north a ≡ n ∷ [] = cond-false _ [] (n ∷ []) (ne_eqb a.y 0 row) in
    Contains-append_left (north a) _ b (rw is (0, omega arith, same_cell n b (let u = t.0 in omega arith) (let u = t.1 in omega arith)))
beside_target a NE b straight t = absurd (let h : true ≡ false = straight in cc)
beside_target a E b straight t =
    let e : Cell = record { x = a.x + 1; y = a.y } in
    Contains-append_right (north a) _ b (0, omega arith, same_cell e b (let u = t.0 in omega arith) (let u = t.1 in omega arith))
beside_target a SE b straight t = absurd (let h : true ≡ false = straight in cc)
beside_target a S b straight t =
    let s : Cell = record { x = a.x; y = a.y + 1 } in
    Contains-append_right (north a) _ b (1, omega arith, same_cell s b (let u = t.0 in omega arith) (let u = t.1 in omega arith))
beside_target a SW b straight t = absurd (let h : true ≡ false = straight in cc)
beside_target a W b straight t =
    let column : a.x ≡ 0 → ⊥ = λ e. let u = t.0 in omega arith in
    let w : Cell = record { x = a.x - 1; y = a.y } in
    let is : west a ≡ w ∷ [] = cond-false _ [] (w ∷ []) (ne_eqb a.x 0 column) in
    Contains-append_right (north a) _ b (rw is (2, omega arith, same_cell w b (let u = t.0 in omega arith) (let u = t.1 in omega arith)))
beside_target a NW b straight t = absurd (let h : true ≡ false = straight in cc)

-- a list that has the first of the connected cells, and with each of its cells those beside it, has them all
module _ (cells order : List Cell) (closed : (c d : Cell) → Contains order c → Contains (cells_beside c) d → Contains cells d → Contains order d)
    (connected : IsConnected cells) (some : Contains cells (first_of cells)) (first : Contains order (first_of cells)) where
  along : (from : Cell) (moves : List Move) (to : Cell) → GoesThrough cells from moves to → Contains order from → Contains order to
  along from [] to goes seen = subst (Contains order) goes seen
  along from (move ∷ moves) to goes seen =
      along goes.0 moves to goes.4 (closed from goes.0 seen (beside_target from move goes.0 goes.2 goes.1) goes.3)

  pub all_reached : (c : Cell) → Contains cells c → Contains order c
  all_reached c inside =
      let way = connected.joined (first_of cells) c some inside in
      along (first_of cells) way.0 c way.1 first

-- nothing waits any more: all cells were seen
module _ (cells : List Cell) (box : Box) (order : List Cell) (p : IsWalk cells box order [])
    (connected : IsConnected cells) (some : Contains cells (first_of cells)) where
  pub all_seen : (c : Cell) → Contains cells c → Contains order c
  all_seen =
      all_reached cells order
      (λ c d seen near inside. elim (p.closed c d seen near inside) [ inl then_seen ↦ then_seen | inr waits ↦ absurd (contains_nothing d waits) ])
      connected some (elim p.first [ inl seen ↦ seen | inr waits ↦ absurd (contains_nothing (first_of cells) waits) ])

  pub visited : Visits cells (first_of cells ∷ []) [] order
  visited = p.path order nothing
