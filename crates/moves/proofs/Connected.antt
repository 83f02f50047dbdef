-- Lists of cells: whether a cell is in one, and lists that are connected, where from one of the cells on each next one
-- lies beside one that was reached before.
use Rattle.std.proofs.Common.{◌≡◌, ℕ, zero, suc, ◌+◌, ◌<◌, true, false, eqb, ◌&&◌, ◌||◌, Bool, List, [], ◌∷◌, ◌++◌, length, get_or, refl, sym, ap, ◌∙◌, subst, inl, inr, arith}
use Rattle.std.specs.List.{list_all, list_any, Contains}
use Rattle.std.proofs.lemmas.Bool.{and_parts, and_from, or_cases, or_left, or_right, eqb-true, eq-eqb, false≢true}
use Rattle.std.proofs.lemmas.List.Elements.{Contains-push_cases}
use Rattle.std.proofs.lemmas.List.Folds.{Any-from_list_any}
use Rattle.std.proofs.lemmas.List.Sums.{AllPass-from_list_all}
use Rattle.moves.specs.declared.Cell.{Cell}
use Rattle.moves.specs.declared.Move.{Move}
use Rattle.moves.specs.declared.Move.TheVariants.{N, E, S, W}
use Rattle.moves.specs.Maps.{is_cell, has_cell}
use Rattle.moves.specs.Moves.{is_diagonal, opposite, IsTarget}
use Rattle.moves.specs.StraightPaths.{GoesThrough, IsConnected}
use Rattle.moves.proofs.MoveLaws.{same_cell, is_diagonal-opposite, target_back}
use Rattle.moves.proofs.RowMajor.{contains_later}

-- ---- whether a cell is in a list

pub is_cell-true : (a b : Cell) → is_cell a b ≡ true → b ≡ a
is_cell-true a b h =
    let p = and_parts (eqb a.x b.x) (eqb a.y b.y) h in
    same_cell b a (sym (eqb-true a.x b.x p.0)) (sym (eqb-true a.y b.y p.1))

pub is_cell-same : (a b : Cell) → b ≡ a → is_cell a b ≡ true
is_cell-same a b h = and_from (eqb a.x b.x) (eqb a.y b.y) (eq-eqb a.x b.x (ap (λ c. c.x) (sym h))) (eq-eqb a.y b.y (ap (λ c. c.y) (sym h)))

-- the test finds what the list contains
pub Contains-from_has_cell : (cells : List Cell) (c : Cell) → has_cell cells c ≡ true → Contains cells c
Contains-from_has_cell [] c h = absurd (false≢true h)
Contains-from_has_cell (d ∷ ds) c h =
    elim (or_cases (is_cell c d) (has_cell ds c) h) [
      | inl here ↦ (0, omega arith, is_cell-true c d here)
      | inr later ↦ contains_later d ds c (Contains-from_has_cell ds c later)
    ]

has_cell_at : (cells : List Cell) (c : Cell) (k : ℕ) → k < length cells → get_or cells k c ≡ c → has_cell cells c ≡ true
has_cell_at [] c k less at = absurd (omega arith)
has_cell_at (d ∷ ds) c zero less at = or_left (is_cell c d) (has_cell ds c) (is_cell-same c d at)
has_cell_at (d ∷ ds) c (suc k) less at = or_right (is_cell c d) (has_cell ds c) (has_cell_at ds c k (omega arith) at)

pub has_cell-from_contains : (cells : List Cell) (c : Cell) → Contains cells c → has_cell cells c ≡ true
has_cell-from_contains cells c h = has_cell_at cells c h.0 h.1 h.2

-- ---- straight moves among the cells

-- a straight move leads from the one cell to the other
abbrev pub AreBeside : Cell → Cell → Type 0
AreBeside a b = (move : Move) × IsTarget a move b × (is_diagonal move ≡ false)

-- straight moves among the cells lead from the one cell to the other, and back
pub record IsJoined (cells : List Cell) (a b : Cell) : Type 0 where
  pub there : (moves : List Move) × GoesThrough cells a moves b
  pub back : (moves : List Move) × GoesThrough cells b moves a

goes_on : (cells : List Cell) (a : Cell) (moves : List Move) (b : Cell) (others : List Move) (c : Cell)
    → GoesThrough cells a moves b → GoesThrough cells b others c → GoesThrough cells a (moves ++ others) c
goes_on cells a [] b others c first then = subst (λ d. GoesThrough cells d others c) (sym first) then
goes_on cells a (move ∷ moves) b others c first then = (first.0, first.1, first.2, first.3, goes_on cells first.0 moves b others c first.4 then)

pub joined_same : (cells : List Cell) (a : Cell) → IsJoined cells a a
joined_same cells a = record { there = ([], refl); back = ([], refl) }

pub joined_next : (cells : List Cell) (a b c : Cell) → IsJoined cells a b → AreBeside b c → Contains cells b
    → Contains cells c → IsJoined cells a c
joined_next cells a b c joined near has_b has_c = record {
  there = (joined.there.0 ++ near.0 ∷ [], goes_on cells a joined.there.0 b (near.0 ∷ []) c joined.there.1 (c, near.1, near.2, has_c, refl));
  back = (opposite near.0 ∷ joined.back.0, (b, target_back b near.0 c near.1, is_diagonal-opposite near.0 ∙ near.2, has_b, joined.back.1));
}

-- all by way of one cell
pub connected_from : (cells : List Cell) (a : Cell) → ((c : Cell) → Contains cells c → IsJoined cells a c) → IsConnected cells
connected_from cells a all = record {
  joined = λ from to f t.
      let first = (all from f).back in
      let then = (all to t).there in
      (first.0 ++ then.0, goes_on cells from first.0 a then.0 to first.1 then.1);
}

-- ---- for lists that are written out

-- the cell in that column and row
abbrev pub cell_of : ℕ → ℕ → Cell
cell_of x y = record { x = x; y = y }

-- whether two cells share a side
abbrev pub share_side : Cell → Cell → Bool
share_side a b =
    (eqb a.x b.x && eqb (b.y + 1) a.y) || ((eqb b.x (a.x + 1) && eqb b.y a.y)
    || ((eqb b.x a.x && eqb b.y (a.y + 1)) || (eqb (b.x + 1) a.x && eqb b.y a.y)))

beside_from_shared : (a b : Cell) → share_side a b ≡ true → AreBeside a b
beside_from_shared a b shared =
    elim (or_cases (eqb a.x b.x && eqb (b.y + 1) a.y) _ shared) [
      | inl n ↦ let p = and_parts (eqb a.x b.x) _ n in (N, (sym (eqb-true a.x b.x p.0), eqb-true (b.y + 1) a.y p.1), refl)
      | inr other ↦
          elim (or_cases (eqb b.x (a.x + 1) && eqb b.y a.y) _ other) [
            | inl e ↦ let p = and_parts (eqb b.x (a.x + 1)) _ e in (E, (eqb-true b.x (a.x + 1) p.0, eqb-true b.y a.y p.1), refl)
            | inr another ↦
                elim (or_cases (eqb b.x a.x && eqb b.y (a.y + 1)) _ another) [
                  | inl s ↦ let p = and_parts (eqb b.x a.x) _ s in (S, (eqb-true b.x a.x p.0, eqb-true b.y (a.y + 1) p.1), refl)
                  | inr w ↦ let p = and_parts (eqb (b.x + 1) a.x) _ w in (W, (eqb-true (b.x + 1) a.x p.0, eqb-true b.y a.y p.1), refl)
                ]
          ]
    ]

-- whether each next cell is one of the cells and shares a side with one reached before, and all are reached in the end
abbrev pub grows : List Cell → List Cell → List Cell → Bool
grows cells reached [] = list_all (has_cell reached) cells
grows cells reached (c ∷ next) = has_cell cells c && (list_any (share_side c) reached && grows cells (reached ++ c ∷ []) next)

-- a cell of the list to which straight moves lead
pub record IsReached (cells : List Cell) (a c : Cell) : Type 0 where
  pub inside : Contains cells c
  pub joined : IsJoined cells a c

pub connected_by : (cells : List Cell) (a : Cell) (reached next : List Cell)
    → ((c : Cell) → Contains reached c → IsReached cells a c) → grows cells reached next ≡ true → IsConnected cells
connected_by cells a reached [] known grown =
    connected_from cells a (λ c h.
    let passes = AllPass-from_list_all (has_cell reached) cells grown h.0 c h.1 in
    (known c (Contains-from_has_cell reached c (subst (λ d. has_cell reached d ≡ true) h.2 passes))).joined)
connected_by cells a reached (c ∷ next) known grown =
    let p = and_parts (has_cell cells c) _ grown in
    let q = and_parts (list_any (share_side c) reached) _ p.1 in
    let inside = Contains-from_has_cell cells c p.0 in
    let some = Any-from_list_any (share_side c) reached q.0 in
    let before = known some.1 (some.0, some.2, some.3) in
    let near = beside_from_shared c some.1 some.4 in
    let back : AreBeside some.1 c = (opposite near.0, target_back c near.0 some.1 near.1, is_diagonal-opposite near.0 ∙ near.2) in
    let this : IsReached cells a c =
    record { inside = inside; joined = joined_next cells a some.1 c before.joined back before.inside inside } in
    connected_by cells a (reached ++ c ∷ []) next
    (λ d h. elim (Contains-push_cases reached c d h) [ inl earlier ↦ known d earlier | inr same ↦ subst (IsReached cells a) same this ])
    q.1

-- the cells are connected where they can be reached in that order, from the first on
pub connected_in_order : (cells : List Cell) (first : Cell) (next : List Cell) → has_cell cells first ≡ true
    → grows cells (first ∷ []) next ≡ true → IsConnected cells
connected_in_order cells first next inside grown =
    let this : IsReached cells first first =
    record { inside = Contains-from_has_cell cells first inside; joined = joined_same cells first } in
    connected_by cells first (first ∷ []) next
    (λ c h. elim (Contains-push_cases [] first c h) [
      | inl none ↦ absurd (let l = none.1 in omega arith)
      | inr same ↦ subst (IsReached cells first) same this
    ])
    grown
