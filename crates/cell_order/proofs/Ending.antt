-- The end of the walk, and why it comes.
use Rattle.std.proofs.Common.{◌≡◌, ℕ, ◌+◌, ◌-◌, ◌*◌, ◌<◌, ◌≤◌, false, cond, List, [], ◌∷◌, ◌++◌, length, get_or, reverse, sym, arith}
use Rattle.std.specs.List.{AllPairs, Contains, count_by}
use Rattle.std.specs.List.Sorted.{IsPermutation}
use Rattle.std.proofs.lemmas.Bool.{cond-true, cond_both}
use Rattle.std.proofs.lemmas.List.{length-append, length-reverse}
use Rattle.std.proofs.lemmas.List.Elements.{Contains-get_or}
use Rattle.std.proofs.lemmas.List.Sums.{sum_by-set}
use Rattle.std.proofs.lemmas.List.Sorted.{length_permutation}
use Rattle.moves.specs.declared.Cell.{Cell}
use Rattle.moves.specs.Maps.{ComesBefore}
use Rattle.moves.specs.Components.{first_of}
use Rattle.moves.specs.StraightPaths.{IsConnected}
use Rattle.moves.specs.Rectangles.{place_in}
use Rattle.moves.proofs.RowMajor.{before_differs}
use Rattle.moves.proofs.Rectangles.{place_below}
use Rattle.cell_order.specs.Orders.{north, west, cells_beside, visit}
use Rattle.cell_order.specs.Boxes.{Box, IsMarked, with_mark}
use Rattle.cell_order.proofs.Visiting.{visits_fold}
use Rattle.cell_order.proofs.Walking.{IsWalk, all_seen, visited}
use Rattle.cell_order.proofs.Permutations.{permutation}

-- at most four cells are beside a cell
pub length_beside : (c : Cell) → length (cells_beside c) ≤ 4
length_beside c =
    let up : length (north c) ≤ 1 = cond_both _ [] (record { x = c.x; y = c.y - 1 } ∷ []) (λ xs. length xs ≤ 1) (λ e. omega arith) (λ e. omega arith) in
    let left : length (west c) ≤ 1 = cond_both _ [] (record { x = c.x - 1; y = c.y } ∷ []) (λ xs. length xs ≤ 1) (λ e. omega arith) (λ e. omega arith) in
    omega (arith, length-append (north c) (record { x = c.x + 1; y = c.y } ∷ record { x = c.x; y = c.y + 1 } ∷ west c))

-- so much the stack grows
pub length_pushed : (rest : List Cell) (c : Cell) → length (rest ++ reverse (cells_beside c)) ≤ length rest + 4
length_pushed rest c = omega (arith, length-append rest (reverse (cells_beside c)), length-reverse (cells_beside c), length_beside c)

-- a mark fewer
pub count_fewer : (box : Box) (c : Cell) → length box.marks ≡ box.area.width * box.area.height → IsMarked box c
    → count_by (λ mark. mark) (with_mark box c false).marks + 1 ≡ count_by (λ mark. mark) box.marks
count_fewer box c size m =
    let below = place_below box.area c m.within in
    let one : cond {A = ℕ} (get_or box.marks (place_in box.area c) false) 1 0 ≡ 1 = cond-true _ 1 0 m.marked in
    omega (arith, sum_by-set (λ mark. cond {A = ℕ} mark 1 0) box.marks (place_in box.area c) false false (omega arith))

module _ (cells : List Cell) (box : Box) (order : List Cell) (p : IsWalk cells box order [])
    (connected : IsConnected cells) (some : 0 < length cells) (rows : AllPairs ComesBefore cells) where
  has_first : Contains cells (first_of cells)
  has_first = Contains-get_or cells 0 (record { x = 0; y = 0 }) some

  -- all cells stand in the order, each once
  pub walk_permutes : IsPermutation order cells
  walk_permutes =
      permutation order cells p.apart (λ i j d less within. before_differs _ _ (rows i j d less within)) p.inside
      (all_seen cells box order p connected has_first)

  -- and the order is the defined one
  pub walk_orders : order ≡ visit (length cells) cells [] (first_of cells)
  walk_orders =
      let many = length_permutation order cells walk_permutes in
      sym (visits_fold (visited cells box order p connected has_first) (length cells) (omega arith))
