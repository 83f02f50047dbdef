-- Rows, cell by cell and line by line.
use Rattle.std.proofs.Common.{◌≡◌, ℕ, suc, ◌+◌, ◌-◌, ◌*◌, ◌<◌, ◌≤◌, Bool, true, false, not, ◌||◌, cond, ltb, List, [], ◌∷◌, ◌++◌, length, get_or, set, take, drop, Some, None, Ok, Err, refl, sym, ap, subst, ◌∙◌, arith}
use Rattle.std.proofs.lemmas.Bool.{ltb-true, lt-ltb}
use Rattle.std.proofs.lemmas.List.{drop_more, drop_all, take_all, take_more_set, drop-drop}
use Rattle.std.proofs.lemmas.List.Sums.{sum_by-append, sum_by_push}
use Rattle.moves.specs.declared.Terrain.{Terrain}
use Rattle.moves.specs.declared.Terrain.TheVariants.{Blocked, Land, Water}
use Rattle.moves.specs.Maps.{is_passable}
use Rattle.text_lines.specs.Judging.{wanted, checked}
use Rattle.text_lines.proofs.JudgingLemmas.{bind_ok, checked_ok, wanted_ok}
use Rattle.map_read.specs.declared.fault.MapFault.{MapFault}
use Rattle.map_read.specs.declared.fault.MapFault.TheVariants.{BadCell, MissingRows, TooManyCells}
use Rattle.text_lines.specs.Words.{is_blank}
use Rattle.map_read.specs.MapText.{terrain_for, cell_of, free_in, cells_in, row_in, rows_in, extra_in}

-- what has been read of a row: what follows gives what the whole row gives
pub record IsFilledTo (y start x free : ℕ) (row : List ℕ) (before cells : List Terrain) : Type 0 where
  pub value : cells_in y x (take (start + x) cells) (drop x row) ≡ cells_in y 0 before row
  pub count : free ≡ free_in (take (start + x) cells)
  pub limit : free ≤ 32768

-- a cell that is not refused: its byte stands for it, and there is room for it
pub record IsCell (byte free : ℕ) (cell : Terrain) : Type 0 where
  pub stands : terrain_for byte ≡ Some cell
  pub limit : free + cond (is_passable cell) 1 0 ≤ 32768

-- whether there is room for a cell
abbrev pub has_room : ℕ → Terrain → Bool
has_room free cell = not (is_passable cell) || ltb free 32768

room_is : (free : ℕ) (cell : Terrain) → free ≤ 32768 → has_room free cell ≡ true → free + cond (is_passable cell) 1 0 ≤ 32768
room_is free Blocked limit e = omega (arith, limit)
room_is free Land limit e = omega (arith, ltb-true free 32768 e)
room_is free Water limit e = omega (arith, ltb-true free 32768 e)

room_back : (free : ℕ) (cell : Terrain) → free + cond (is_passable cell) 1 0 ≤ 32768 → has_room free cell ≡ true
room_back free Blocked few = refl
room_back free Land few = lt-ltb free 32768 (omega (arith, few))
room_back free Water few = lt-ltb free 32768 (omega (arith, few))

pub cell_is : (x y byte free : ℕ) (cell : Terrain) → free ≤ 32768 → cell_of x y byte free ≡ Ok cell → IsCell byte free cell
unfolding cell_of
cell_is x y byte free cell limit e =
    let a = bind_ok (wanted (terrain_for byte) (BadCell x y byte)) (λ t. checked (has_room free t) t (TooManyCells x y)) cell e in
    let b = checked_ok (has_room free a.0) a.0 cell (TooManyCells x y) a.2 in
    let is : IsCell byte free a.0 = record { stands = wanted_ok (terrain_for byte) a.0 (BadCell x y byte) a.1; limit = room_is free a.0 limit b.0 } in
    subst (λ (t : Terrain). IsCell byte free t) b.1 is

pub cell_back : (x y byte free : ℕ) (cell : Terrain) → IsCell byte free cell → cell_of x y byte free ≡ Ok cell
unfolding cell_of
cell_back x y byte free cell is = rw (is.stands, room_back free cell is.limit) refl

pub cell_limit : (x y byte free : ℕ) (cell : Terrain) → cell_of x y byte free ≡ Ok cell → free ≤ 32768 → free + cond (is_passable cell) 1 0 ≤ 32768
cell_limit x y byte free cell e limit = (cell_is x y byte free cell limit e).limit

-- what a cell adds to a count
pub count_push : (cells : List Terrain) (cell : Terrain) → free_in (cells ++ cell ∷ []) ≡ free_in cells + cond (is_passable cell) 1 0
count_push cells cell = sum_by_push (λ (c : Terrain). cond (is_passable c) 1 0) cells cell

pub count_joined : (cells others : List Terrain) → free_in (cells ++ others) ≡ free_in cells + free_in others
count_joined cells others = sum_by-append (λ (c : Terrain). cond (is_passable c) 1 0) cells others

count_more : (cells : List Terrain) (place : ℕ) (cell : Terrain) → place < length cells → free_in (take (place + 1) (set cells place cell)) ≡ free_in (take place cells) + cond (is_passable cell) 1 0
count_more cells place cell lt = ap (λ (front : List Terrain). free_in front) (take_more_set cells place cell lt) ∙ count_push (take place cells) cell

-- one cell more
cells_step : (x y byte free : ℕ) (before : List Terrain) (row : List ℕ) (cell : Terrain) → free ≡ free_in before → cell_of x y byte free ≡ Ok cell
    → cells_in y x before (byte ∷ row) ≡ cells_in y (x + 1) (before ++ cell ∷ []) row
unfolding cells_in
cells_step x y byte free before row cell count e =
    let e' : cell_of x y byte (free_in before) ≡ Ok cell = rw (← count) e in
    rw e' refl

cells_fault : (x y byte free : ℕ) (before : List Terrain) (row : List ℕ) (fault : MapFault) → free ≡ free_in before → cell_of x y byte free ≡ Err fault
    → cells_in y x before (byte ∷ row) ≡ Err fault
unfolding cells_in
cells_fault x y byte free before row fault count e =
    let e' : cell_of x y byte (free_in before) ≡ Err fault = rw (← count) e in
    rw e' refl

no_cells : (x y : ℕ) (before : List Terrain) → cells_in y x before [] ≡ Ok before
unfolding cells_in
no_cells x y before = refl

-- what a truth value adds to a count
added_is : (added : ℕ) (passable : Bool) → (passable ≡ true → added ≡ 1) → (passable ≡ false → added ≡ 0) → added ≡ cond passable 1 0
added_is added true yes' no' = yes' refl
added_is added false yes' no' = no' refl

pub filled_more : (y start x free added byte : ℕ) (cell : Terrain) (row : List ℕ) (before cells : List Terrain)
    → x < length row → byte ≡ get_or row x 0 → start + x < length cells → cell_of x y byte free ≡ Ok cell
    → (is_passable cell ≡ true → added ≡ 1) → (is_passable cell ≡ false → added ≡ 0)
    → IsFilledTo y start x free row before cells → IsFilledTo y start (x + 1) (free + added) row before (set cells (start + x) cell)
filled_more y start x free added byte cell row before cells lt is inside e one none so_far =
    let next-is : free + added ≡ free + cond (is_passable cell) 1 0 = ap (λ (n : ℕ). free + n) (added_is added (is_passable cell) one none) in
    let place : start + (x + 1) ≡ start + x + 1 = omega arith in
    let front : take (start + x + 1) (set cells (start + x) cell) ≡ take (start + x) cells ++ cell ∷ [] = take_more_set cells (start + x) cell inside in
    let parts : drop x row ≡ byte ∷ drop (x + 1) row = rw is (drop_more row x 0 lt) in
    let step : cells_in y x (take (start + x) cells) (drop x row) ≡ cells_in y (x + 1) (take (start + x) cells ++ cell ∷ []) (drop (x + 1) row) =
    ap (cells_in y x (take (start + x) cells)) parts ∙ cells_step x y byte free (take (start + x) cells) (drop (x + 1) row) cell so_far.count e in
    record {
      value = rw (place, front) (sym step ∙ so_far.value);
      count = rw (place, count_more cells (start + x) cell inside, ← so_far.count) next-is;
      limit = rw next-is (cell_limit x y byte free cell e so_far.limit);
    }

pub filled_fault : (y start x free byte : ℕ) (fault : MapFault) (row : List ℕ) (before cells : List Terrain)
    → x < length row → byte ≡ get_or row x 0 → cell_of x y byte free ≡ Err fault → IsFilledTo y start x free row before cells
    → cells_in y 0 before row ≡ Err fault
filled_fault y start x free byte fault row before cells lt is e so_far =
    let parts : drop x row ≡ byte ∷ drop (x + 1) row = rw is (drop_more row x 0 lt) in
    sym so_far.value ∙ ap (cells_in y x (take (start + x) cells)) parts ∙ cells_fault x y byte free (take (start + x) cells) (drop (x + 1) row) fault so_far.count e

pub filled_all : (y start x free end : ℕ) (row : List ℕ) (before cells : List Terrain) → length row ≤ x → end ≡ start + x → IsFilledTo y start x free row before cells
    → (cells_in y 0 before row ≡ Ok (take end cells)) × (free ≡ free_in (take end cells))
filled_all y start x free end row before cells le end-is so_far =
    (sym so_far.value ∙ ap (cells_in y x (take (start + x) cells)) (drop_all x row le) ∙ rw end-is (no_cells x y (take (start + x) cells)), rw end-is so_far.count)

-- ---- lines

-- what has been read of the rows: what follows gives what all lines give
pub record AreReadTo (width height y free : ℕ) (start lines : List (List ℕ)) (cells : List Terrain) : Type 0 where
  pub value : rows_in width y (height - y) (take (y * width) cells) lines ≡ rows_in width 0 height [] start
  pub rest : lines ≡ drop y start
  pub count : free ≡ free_in (take (y * width) cells)
  pub limit : free ≤ 32768

module _ (width height y free : ℕ) (start lines : List (List ℕ)) (cells : List Terrain) (lt : y < height) (so_far : AreReadTo width height y free start lines cells) where
  one_more : height - y ≡ suc (height - (y + 1))
  one_more = omega arith

  pub rows_missing : lines ≡ [] → rows_in width 0 height [] start ≡ Err (MissingRows y)
  unfolding rows_in
  rows_missing e =
      let now : rows_in width y (height - y) (take (y * width) cells) lines ≡ Err (MissingRows y) = rw (one_more, e) refl in
      sym so_far.value ∙ now

  pub rows_bad_line : (line : List ℕ) (rest : List (List ℕ)) (fault : MapFault) → lines ≡ line ∷ rest → row_in width y line ≡ Err fault → rows_in width 0 height [] start ≡ Err fault
  unfolding rows_in
  rows_bad_line line rest fault e bad =
      let now : rows_in width y (height - y) (take (y * width) cells) lines ≡ Err fault = rw (one_more, e, bad) refl in
      sym so_far.value ∙ now

  pub rows_bad_cell : (line row : List ℕ) (rest : List (List ℕ)) (fault : MapFault) → lines ≡ line ∷ rest → row_in width y line ≡ Ok row
      → cells_in y 0 (take (y * width) cells) row ≡ Err fault → rows_in width 0 height [] start ≡ Err fault
  unfolding rows_in
  rows_bad_cell line row rest fault e good bad =
      let now : rows_in width y (height - y) (take (y * width) cells) lines ≡ Err fault = rw (one_more, e, good, bad) refl in
      sym so_far.value ∙ now

  pub rows_more : (line row : List ℕ) (rest : List (List ℕ)) (next : ℕ) (after : List Terrain) → lines ≡ line ∷ rest → row_in width y line ≡ Ok row
      → cells_in y 0 (take (y * width) cells) row ≡ Ok (take ((y + 1) * width) after) → next ≡ free_in (take ((y + 1) * width) after) → next ≤ 32768
      → AreReadTo width height (y + 1) next start rest after
  unfolding rows_in
  rows_more line row rest next after e good filled count limit =
      let now : rows_in width y (height - y) (take (y * width) cells) lines ≡ rows_in width (y + 1) (height - (y + 1)) (take ((y + 1) * width) after) rest =
      rw (one_more, e, good, filled) refl in
      let left : rest ≡ drop (y + 1) start = ap (λ (ls : List (List ℕ)). drop 1 ls) (sym e ∙ so_far.rest) ∙ drop-drop 1 y start in
      record { value = sym now ∙ so_far.value; rest = left; count = count; limit = limit }

pub rows_all : (width height y free : ℕ) (start lines : List (List ℕ)) (cells : List Terrain) → length cells ≡ width * height → y ≡ height
    → AreReadTo width height y free start lines cells → (rows_in width 0 height [] start ≡ Ok cells) × (free_in cells ≤ 32768)
unfolding rows_in
rows_all width height y free start lines cells whole end so_far =
    let none : height - y ≡ 0 = omega arith in
    let all : take (y * width) cells ≡ cells = take_all (y * width) cells (omega (arith, whole, ap (λ (n : ℕ). n * width) end)) in
    let now : rows_in width y (height - y) (take (y * width) cells) lines ≡ Ok cells = rw (none, all) refl in
    let count : free ≡ free_in cells = so_far.count ∙ ap (λ (front : List Terrain). free_in front) all in
    (sym so_far.value ∙ now, omega (arith, so_far.limit, count))

-- ---- the lines after the rows

pub extra_none : (number : ℕ) → extra_in number [] ≡ None
unfolding extra_in
extra_none number = refl

pub extra_here : (number : ℕ) (line : List ℕ) (lines : List (List ℕ)) → is_blank line ≡ false → extra_in number (line ∷ lines) ≡ Some number
unfolding extra_in
extra_here number line lines e = rw e refl

pub extra_later : (number : ℕ) (line : List ℕ) (lines : List (List ℕ)) → is_blank line ≡ true → extra_in number (line ∷ lines) ≡ extra_in (number + 1) lines
unfolding extra_in
extra_later number line lines e = rw e refl
