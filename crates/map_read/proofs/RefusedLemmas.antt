-- A refusal names the first fault.
use Rattle.std.proofs.Common.{◌≡◌, ◌≢◌, ℕ, zero, suc, ◌+◌, ◌-◌, ◌*◌, ◌<◌, ◌≤◌, true, false, eqb, leb, ◌&&◌, List, [], ◌∷◌, ◌++◌, length, get_or, take, drop, Option, Some, None, Ok, Err, refl, sym, ap, subst, ◌∙◌, ◌⊎◌, append_assoc, arith, inl, inr}
use Rattle.std.specs.Prelude.{codes, IsTrue}
use Rattle.std.specs.List.{AllByRecursion}
use Rattle.std.proofs.lemmas.Bool.{cases_Bool, cases_lt, eqb-false, ltb-false, and_from, le-leb, false≢true}
use Rattle.std.proofs.lemmas.List.{append-nil, drop_all, drop-drop, length-drop, length-append, length-take, get_or-drop, get_or-append_right, take_at, take_all, take-append-le, drop-append-le}
use Rattle.moves.specs.declared.Terrain.{Terrain}
use Rattle.moves.specs.declared.Terrain.TheVariants.{Blocked, Land, Water}
use Rattle.moves.specs.Maps.{Map}
use Rattle.text_lines.specs.Judging.{◌>>=◌, wanted, checked}
use Rattle.text_lines.specs.Lines.{lines_of}
use Rattle.text_lines.specs.Words.{words_of, has_words, is_blank}
use Rattle.text_lines.proofs.JudgingLemmas.{bind_ok, bind_err, checked_ok, checked_err, wanted_ok, wanted_err}
use Rattle.text_lines.proofs.WordTests.{words_from_test, test_from_words}
use Rattle.map_read.specs.declared.fault.MapFault.{MapFault}
use Rattle.map_read.specs.declared.fault.MapFault.TheVariants.{Header, Size, RowLength, BadCell, MissingRows, Extra, TooManyCells}
use Rattle.map_read.specs.MapText.{other_side, judged_sides, sides_given, sides_from, is_side_length, are_map_sides, number_named, line_at, header_in, terrain_for, cell_of, free_in, cells_in, row_in, rows_in, extra_in, ended, map_of}
use Rattle.map_read.specs.Accepted.{StandFor, IsRow, AreRows, AreSidesGiven}
use Rattle.map_read.specs.Refused.{IsSideGiven, IsReadTo, row_bytes, HasRow, IsByteOfRow, IsBadCell, IsPassableByte, IsOneCellTooMany, IsExtraLine, IsFirstFault, RefusalsNameTheFirstFault}
use Rattle.map_read.proofs.SideLemmas.{sides_within}
use Rattle.map_read.proofs.RowLemmas.{has_room, cell_is, count_push}
use Rattle.map_read.proofs.AcceptedLemmas.{sides_are, stand_length, cells_are, row_is, rows_are, header_is}

-- ---- the header

abbrev type_words : List (List ℕ)
type_words = codes "type" ∷ codes "octile" ∷ []

not_words : (words : List (List ℕ)) (line : List ℕ) → has_words words line ≡ false → words_of line ≢ words
not_words words line no' = λ e. false≢true (sym no' ∙ test_from_words words line e)

-- what can be wrong with two sides, where the one is good
unfit_sides : (one other : ℕ) → is_side_length one ≡ true → (are_map_sides one other ≡ false) ⊎ (are_map_sides other one ≡ false)
    → (is_side_length other ≡ false) ⊎ (1048576 < one * other)
unfit_sides one other fits unfit = elim (cases_Bool (is_side_length other)) [
  | inr bad ↦ inl bad
  | inl good ↦ elim (cases_lt 1048576 (one * other)) [
    | inl above ↦ inr above
    | inr within ↦
        let product : other * one ≤ 1048576 = omega arith in
        let both : are_map_sides one other ≡ true =
        and_from (is_side_length one && is_side_length other) (leb (one * other) 1048576) (and_from (is_side_length one) (is_side_length other) fits good) (le-leb (one * other) 1048576 within) in
        let reversed : are_map_sides other one ≡ true =
        and_from (is_side_length other && is_side_length one) (leb (other * one) 1048576) (and_from (is_side_length other) (is_side_length one) good fits) (le-leb (other * one) 1048576 product) in
        elim unfit [ inl u ↦ absurd (false≢true (sym u ∙ both)) | inr u ↦ absurd (false≢true (sym u ∙ reversed)) ]
  ]
]

module _ (lines : List (List ℕ)) (kind : words_of (line_at lines 1) ≡ type_words) where
  -- what follows the side of line 2
  module _ (name other : List ℕ) (one : ℕ) (given : IsSideGiven lines other one) where
    other_fault : (fault : MapFault) → other_side one (number_named other (line_at lines 3)) ≡ Err fault → IsFirstFault lines fault
    other_fault fault e =
        elim (bind_err (checked (is_side_length one) one (Size 2)) (λ _. wanted (number_named other (line_at lines 3)) (Header 3)) fault e) [
          | inl bad ↦
              let b = checked_err (is_side_length one) one (Size 2) fault bad in
              let is : IsFirstFault lines (Size 2) = inl (refl, record { other = other; number = one; given = given; unfit = b.0 }) in
              subst (λ (f : MapFault). IsFirstFault lines f) b.1 is
          | inr more ↦
              let first = checked_ok (is_side_length one) one more.0 (Size 2) more.1 in
              let b = wanted_err (number_named other (line_at lines 3)) (Header 3) fault more.2 in
              let is : IsFirstFault lines (Header 3) =
              inr (inr (inl (refl, record { other = other; number = one; before = given; fits = first.0; none = b.0 }))) in
              subst (λ (f : MapFault). IsFirstFault lines f) b.1 is
        ]

    size_fault : (here : ℕ) → other_side one (number_named other (line_at lines 3)) ≡ Ok here
        → (are_map_sides one here ≡ false) ⊎ (are_map_sides here one ≡ false) → IsFirstFault lines (Size 3)
    size_fault here e unfit =
        let a = bind_ok (checked (is_side_length one) one (Size 2)) (λ _. wanted (number_named other (line_at lines 3)) (Header 3)) here e in
        let first = checked_ok (is_side_length one) one a.0 (Size 2) a.1 in
        let found = wanted_ok (number_named other (line_at lines 3)) here (Header 3) a.2 in
        inr (
          refl,
          record { other = other; number = one; length_here = here; before = given; fits = first.0; given = found; unfit = unfit_sides one here first.0 unfit },
        )

  sides_fault : (second_height second_width : Option ℕ) (fault : MapFault)
      → number_named (codes "height") (line_at lines 2) ≡ second_height → number_named (codes "width") (line_at lines 2) ≡ second_width
      → sides_given second_height second_width (number_named (codes "height") (line_at lines 3)) (number_named (codes "width") (line_at lines 3)) ≡ Err fault
      → IsFirstFault lines fault
  unfolding sides_given
  sides_fault (Some h) second_width fault height-is width-is e =
      let given : IsSideGiven lines (codes "width") h = record { name = codes "height"; kind = kind; names = inl (refl, refl); given = height-is } in
      elim (bind_err (other_side h (number_named (codes "width") (line_at lines 3))) (λ w. judged_sides w h) fault e) [
        | inl bad ↦ other_fault (codes "height") (codes "width") h given fault bad
        | inr more ↦
            let b = checked_err (are_map_sides more.0 h) (more.0, h) (Size 3) fault more.2 in
            subst (λ (f : MapFault). IsFirstFault lines f) b.1 (size_fault (codes "height") (codes "width") h given more.0 more.1 (inr b.0))
      ]
  sides_fault None (Some w) fault height-is width-is e =
      let given : IsSideGiven lines (codes "height") w = record { name = codes "width"; kind = kind; names = inr (refl, refl); given = width-is } in
      elim (bind_err (other_side w (number_named (codes "height") (line_at lines 3))) (λ h. judged_sides w h) fault e) [
        | inl bad ↦ other_fault (codes "width") (codes "height") w given fault bad
        | inr more ↦
            let b = checked_err (are_map_sides w more.0) (w, more.0) (Size 3) fault more.2 in
            subst (λ (f : MapFault). IsFirstFault lines f) b.1 (size_fault (codes "width") (codes "height") w given more.0 more.1 (inl b.0))
      ]
  sides_fault None None fault height-is width-is e =
      let same : Header 2 ≡ fault = cc in
      let is : IsFirstFault lines (Header 2) = inr (inl (refl, record { kind = kind; no_height = height-is; no_width = width-is })) in
      subst (λ (f : MapFault). IsFirstFault lines f) same is

header_fault : (lines : List (List ℕ)) (fault : MapFault) → header_in lines ≡ Err fault → IsFirstFault lines fault
unfolding header_in
header_fault lines fault e =
    let first = has_words type_words (line_at lines 1) in
    let last = has_words (codes "map" ∷ []) (line_at lines 4) in
    elim (bind_err (checked first lines (Header 1)) (λ kind. sides_from (line_at lines 2) (line_at lines 3) >>= λ s. checked last s (Header 4)) fault e) [
      | inl bad ↦
          let b = checked_err first lines (Header 1) fault bad in
          let is : IsFirstFault lines (Header 1) = inl (refl, not_words type_words (line_at lines 1) b.0) in
          subst (λ (f : MapFault). IsFirstFault lines f) b.1 is
      | inr more ↦
          let good = checked_ok first lines more.0 (Header 1) more.1 in
          let kind = words_from_test type_words (line_at lines 1) good.0 in
          elim (bind_err (sides_from (line_at lines 2) (line_at lines 3)) (λ s. checked last s (Header 4)) fault more.2) [
            | inl bad ↦ sides_fault lines kind _ _ fault refl refl bad
            | inr rest ↦
                let b = checked_err last rest.0 (Header 4) fault rest.2 in
                let both = sides_are _ _ _ _ rest.0 rest.1 in
                let given : AreSidesGiven lines rest.0.0 rest.0.1 =
                record { kind = kind; sides = both.0; limits = sides_within rest.0.0 rest.0.1 both.1 } in
                let is : IsFirstFault lines (Header 4) =
                inr (inr (inr (refl, record { width = rest.0.0; height = rest.0.1; before = given; other = not_words (codes "map" ∷ []) (line_at lines 4) b.0 }))) in
                subst (λ (f : MapFault). IsFirstFault lines f) b.1 is
          ]
    ]

-- ---- one row

stand_push : (bytes : List ℕ) (cells : List Terrain) (byte : ℕ) (cell : Terrain) → StandFor bytes cells → StandFor (byte ∷ []) (cell ∷ []) → StandFor (bytes ++ byte ∷ []) (cells ++ cell ∷ [])
unfolding StandFor
stand_push [] [] byte cell stand more = more
stand_push [] (c ∷ cells) byte cell stand more = absurd stand
stand_push (b ∷ bytes) [] byte cell stand more = absurd stand
stand_push (b ∷ bytes) (c ∷ cells) byte cell stand more = (stand.0, stand_push bytes cells byte cell stand.1 more)

-- where there is no room for a cell, it is passable and so many are there as there may be
no_room : (free byte : ℕ) (cell : Terrain) → terrain_for byte ≡ Some cell → free ≤ 32768 → has_room free cell ≡ false → IsPassableByte byte × (free ≡ 32768)
no_room free byte Blocked stands few e = absurd cc
no_room free byte Land stands few e = (inl stands, omega (arith, few, ltb-false free 32768 e))
no_room free byte Water stands few e = (inr stands, omega (arith, few, ltb-false free 32768 e))

-- a fault of row y, where the row is the one and the cells above it are the other
abbrev IsCellFault : ℕ → List ℕ → List Terrain → MapFault → Type 0
IsCellFault y row above (BadCell x r byte) = (r ≡ y) × IsBadCell x byte (length row) row above
IsCellFault y row above (TooManyCells x r) = (r ≡ y) × IsOneCellTooMany x (length row) row above
IsCellFault y row above (Header line) = ⊥
IsCellFault y row above (Size line) = ⊥
IsCellFault y row above (RowLength line expected found) = ⊥
IsCellFault y row above (MissingRows found) = ⊥
IsCellFault y row above (Extra line) = ⊥

module _ (y : ℕ) (row : List ℕ) (above : List Terrain) where
  -- the byte at a place, where the bytes before it stand for cells
  here : (x byte : ℕ) (start rest : List ℕ) (left : List Terrain) → row ≡ start ++ byte ∷ rest → length start ≡ x → StandFor start left
      → free_in (above ++ left) ≤ 32768 → IsByteOfRow x byte (free_in (above ++ left)) (length row) row above
  here x byte start rest left row-is long stand few =
      let front : take x row ≡ start = ap (λ (r : List ℕ). take x r) row-is ∙ take_at start (byte ∷ rest) x long in
      let at : get_or row x 0 ≡ byte =
      ap (λ (r : List ℕ). get_or r x 0) row-is ∙ get_or-append_right start (byte ∷ rest) x x 0 long (omega arith)
      ∙ ap (λ (k : ℕ). get_or (byte ∷ rest) k 0) (let none : x - x ≡ 0 = omega arith in none) in
      let lengths = ap (λ (r : List ℕ). length r) row-is ∙ length-append start (byte ∷ rest) in (
        refl,
        record { left = left; bytes = rw front stand; column = omega (arith, lengths); byte_is = at; free_is = refl; few = few },
      )

  cell_fault : (x byte : ℕ) (start rest : List ℕ) (left : List Terrain) (fault : MapFault) → row ≡ start ++ byte ∷ rest → length start ≡ x → StandFor start left
      → free_in (above ++ left) ≤ 32768 → cell_of x y byte (free_in (above ++ left)) ≡ Err fault → IsCellFault y row above fault
  unfolding cell_of
  cell_fault x byte start rest left fault row-is long stand few e =
      let free = free_in (above ++ left) in
      let at = here x byte start rest left row-is long stand few in
      elim (bind_err (wanted (terrain_for byte) (BadCell x y byte)) (λ t. checked (has_room free t) t (TooManyCells x y)) fault e) [
        | inl bad ↦
            let b = wanted_err (terrain_for byte) (BadCell x y byte) fault bad in
            let is : IsCellFault y row above (BadCell x y byte) = (refl, (b.0, (free, at))) in
            subst (λ (f : MapFault). IsCellFault y row above f) b.1 is
        | inr more ↦
            let stands = wanted_ok (terrain_for byte) more.0 (BadCell x y byte) more.1 in
            let b = checked_err (has_room free more.0) more.0 (TooManyCells x y) fault more.2 in
            let full = no_room free byte more.0 stands few b.0 in
            let is : IsCellFault y row above (TooManyCells x y) =
            (refl, (byte, full.0, subst (λ (n : ℕ). IsByteOfRow x byte n (length row) row above) full.1 at)) in
            subst (λ (f : MapFault). IsCellFault y row above f) b.1 is
      ]

  cells_fault : (x : ℕ) (start rest : List ℕ) (left : List Terrain) (fault : MapFault) → row ≡ start ++ rest → length start ≡ x → StandFor start left
      → free_in (above ++ left) ≤ 32768 → cells_in y x (above ++ left) rest ≡ Err fault → IsCellFault y row above fault
  unfolding cells_in StandFor
  cells_fault x start [] left fault row-is long stand few e = absurd cc
  cells_fault x start (byte ∷ rest) left fault row-is long stand few e =
      elim (bind_err (cell_of x y byte (free_in (above ++ left))) (λ terrain. cells_in y (x + 1) ((above ++ left) ++ terrain ∷ []) rest) fault e) [
        | inl bad ↦ cell_fault x byte start rest left fault row-is long stand few bad
        | inr more ↦
            let p = more.0 in
            let cell = cell_is x y byte (free_in (above ++ left)) p few more.1 in
            let joined : (above ++ left) ++ p ∷ [] ≡ above ++ (left ++ p ∷ []) = append_assoc above left (p ∷ []) in
            let count = count_push (above ++ left) p in
            let same = ap (λ (cs : List Terrain). free_in cs) joined in
            let lengths = length-append start (byte ∷ []) in
            cells_fault (x + 1) (start ++ byte ∷ []) rest (left ++ p ∷ []) fault (row-is ∙ sym (append_assoc start (byte ∷ []) rest)) (omega (arith, lengths))
            (stand_push start left byte p stand (cell.stands, tt)) (omega (arith, cell.limit, count, same))
            (subst (λ (cs : List Terrain). cells_in y (x + 1) cs rest ≡ Err fault) joined more.2)
      ]

-- ---- all rows

-- one row more
rows_joined : (width y : ℕ) (cells more : List Terrain) (lines : List (List ℕ)) (line : List ℕ) → AreRows width y cells lines → length cells ≡ width * y
    → y < length lines → get_or lines y [] ≡ line → IsRow width more line → AreRows width (suc y) (cells ++ more) lines
unfolding AreRows
rows_joined width zero cells more [] line are long lt at row = absurd (omega arith)
rows_joined width zero cells more (first ∷ lines) line are long lt at row =
    let all : cells ++ more ≡ more = rw are refl in
    let front : take width more ≡ more = take_all width more (omega (arith, row.wide)) in
    let back : drop width more ≡ [] = drop_all width more (omega (arith, row.wide)) in
    let whole : take width (cells ++ more) ≡ more = ap (λ (cs : List Terrain). take width cs) all ∙ front in (
      subst (λ (cs : List Terrain). IsRow width cs first) (sym whole) (subst (λ (l : List ℕ). IsRow width more l) (sym at) row),
      ap (λ (cs : List Terrain). drop width cs) all ∙ back,
    )
rows_joined width (suc y) cells more [] line are long lt at row = absurd are
rows_joined width (suc y) cells more (first ∷ lines) line are long lt at row =
    let some : width ≤ length cells = omega (arith, long) in
    let front : take width (cells ++ more) ≡ take width cells = take-append-le width cells more some in
    let back : drop width (cells ++ more) ≡ drop width cells ++ more = drop-append-le width cells more some in
    let rest = rows_joined width y (drop width cells) more lines line are.1 (omega (arith, length-drop width cells, long)) (omega arith) at row in (
      subst (λ (cs : List Terrain). IsRow width cs first) (sym front) are.0,
      subst (λ (cs : List Terrain). AreRows width (suc y) cs lines) (sym back) rest,
    )

rows_cells : (width y : ℕ) (cells : List Terrain) (lines : List (List ℕ)) → AreRows width y cells lines → length cells ≡ width * y
unfolding AreRows
rows_cells width zero cells lines are = rw are (omega arith)
rows_cells width (suc y) cells [] are = absurd are
rows_cells width (suc y) cells (line ∷ lines) are =
    let first = are.0.wide in
    let rest = rows_cells width y (drop width cells) lines are.1 in
    omega (arith, first, rest, length-take width cells, length-drop width cells)

module _ (lines : List (List ℕ)) (width height : ℕ) where
  module _ (y : ℕ) (above : List Terrain) (read : IsReadTo lines width height y above) (inside : y < height) (there : 4 + y < length lines) where
    -- what is so of row y
    has_row : (r : ℕ) (IsSo : ℕ → List ℕ → List Terrain → Type 0) → r ≡ y → IsSo width (row_bytes lines y) above → HasRow lines r IsSo
    has_row r IsSo e so =
        let is : HasRow lines y IsSo = record { width = width; height = height; cells = above; before = read; inside = inside; there = there; so = so } in
        subst (λ (k : ℕ). HasRow lines k IsSo) (sym e) is

    -- a fault of a row is the first fault
    row_fault : (fault : MapFault) → length (row_bytes lines y) ≡ width → IsCellFault y (row_bytes lines y) above fault → IsFirstFault lines fault
    row_fault (BadCell x r byte) wide is =
        has_row r (IsBadCell x byte) is.0 (subst (λ (w : ℕ). IsBadCell x byte w (row_bytes lines y) above) wide is.1)
    row_fault (TooManyCells x r) wide is =
        has_row r (IsOneCellTooMany x) is.0 (subst (λ (w : ℕ). IsOneCellTooMany x w (row_bytes lines y) above) wide is.1)
    row_fault (Header line) wide is = absurd is
    row_fault (Size line) wide is = absurd is
    row_fault (RowLength line expected found) wide is = absurd is
    row_fault (MissingRows found) wide is = absurd is
    row_fault (Extra line) wide is = absurd is

    length_fault : (fault : MapFault) → row_in width y (line_at lines (5 + y)) ≡ Err fault → IsFirstFault lines fault
    unfolding row_in
    length_fault fault e =
        let row = row_bytes lines y in
        let b = checked_err (eqb (length row) width) row (RowLength (5 + y) width (length row)) fault e in
        let other : length row ≢ width = λ same. eqb-false (length row) width b.0 same in
        let is : IsFirstFault lines (RowLength (5 + y) width (length row)) =
        (y, refl, has_row y (λ w bytes cells. (width ≡ w) × (length row ≡ length bytes) × (length row ≢ width)) refl (refl, refl, other)) in
        subst (λ (f : MapFault). IsFirstFault lines f) b.1 is

    cells_of_row : (row : List ℕ) (fault : MapFault) → row_in width y (line_at lines (5 + y)) ≡ Ok row → cells_in y 0 above row ≡ Err fault → IsFirstFault lines fault
    unfolding StandFor
    cells_of_row row fault good e =
        let is = row_is width y (line_at lines (5 + y)) row good in
        let none : above ++ [] ≡ above = append-nil above in
        let few : free_in (above ++ []) ≤ 32768 = rw none read.few in
        let e' : cells_in y 0 (above ++ []) row ≡ Err fault = rw none e in
        let at : IsCellFault y row above fault = cells_fault y row above 0 [] row [] fault refl refl tt few e' in
        row_fault fault (ap (λ (r : List ℕ). length r) is.0 ∙ is.1) (subst (λ (r : List ℕ). IsCellFault y r above fault) (sym is.0) at)

    next_row : (row : List ℕ) (all : List Terrain) → row_in width y (line_at lines (5 + y)) ≡ Ok row → cells_in y 0 above row ≡ Ok all → IsReadTo lines width height (y + 1) all
    next_row row all good e =
        let is = row_is width y (line_at lines (5 + y)) row good in
        let more = cells_are y 0 above row all read.few e in
        let wide : length more.cells ≡ width = sym (stand_length row more.cells more.fits) ∙ is.1 in
        let fits : IsRow width more.cells (line_at lines (5 + y)) =
        record { wide = wide; bytes = subst (λ (r : List ℕ). StandFor r more.cells) (sym is.0) more.fits } in
        let at : get_or (drop 4 lines) y [] ≡ line_at lines (5 + y) =
        get_or-drop 4 lines y [] ∙ ap (λ (k : ℕ). get_or lines k []) (let same : 4 + y ≡ 5 + y - 1 = omega arith in same) in
        let rows = rows_joined width y above more.cells (drop 4 lines) (line_at lines (5 + y)) read.above (rows_cells width y above (drop 4 lines) read.above)
        (omega (arith, length-drop 4 lines)) at fits in
        let next : suc y ≡ y + 1 = omega arith in
        let with_row = subst (λ (k : ℕ). AreRows width k (above ++ more.cells) (drop 4 lines)) next rows in
        record {
          header = read.header;
          above = subst (λ (cs : List Terrain). AreRows width (y + 1) cs (drop 4 lines)) (sym more.joined) with_row;
          few = more.few;
        }

  rows_fault : (y more : ℕ) (above : List Terrain) (left : List (List ℕ)) (fault : MapFault) → left ≡ drop (4 + y) lines → y + more ≡ height
      → IsReadTo lines width height y above → rows_in width y more above left ≡ Err fault → IsFirstFault lines fault
  unfolding rows_in
  rows_fault y zero above left fault left-is all read e = absurd cc
  rows_fault y (suc more) above [] fault left-is all read e =
      let same : MissingRows y ≡ fault = cc in
      let none = ap (λ (ls : List (List ℕ)). length ls) left-is in
      let is : IsFirstFault lines (MissingRows y) = record {
        width = width;
        height = height;
        cells = above;
        before = read;
        fewer = omega (arith, all);
        end = omega (arith, none, length-drop (4 + y) lines);
      } in
      subst (λ (f : MapFault). IsFirstFault lines f) same is
  rows_fault y (suc more) above (line ∷ left) fault left-is all read e =
      let some = ap (λ (ls : List (List ℕ)). length ls) left-is in
      let there : 4 + y < length lines = omega (arith, some, length-drop (4 + y) lines) in
      let inside : y < height = omega (arith, all) in
      let line-is : line ≡ line_at lines (5 + y) =
      ap (λ (ls : List (List ℕ)). get_or ls 0 []) left-is ∙ get_or-drop (4 + y) lines 0 [] ∙ ap (λ (k : ℕ). get_or lines k []) (let same : 4 + y + 0 ≡ 5 + y - 1 = omega arith in same) in
      let rest-is : left ≡ drop (4 + (y + 1)) lines =
      ap (λ (ls : List (List ℕ)). drop 1 ls) left-is ∙ drop-drop 1 (4 + y) lines ∙ ap (λ (k : ℕ). drop k lines) (let same : 4 + y + 1 ≡ 4 + (y + 1) = omega arith in same) in
      elim (bind_err (row_in width y line) (λ row. cells_in y 0 above row >>= λ cells. rows_in width (y + 1) more cells left) fault e) [
        | inl bad ↦ length_fault y above read inside there fault (subst (λ (l : List ℕ). row_in width y l ≡ Err fault) line-is bad)
        | inr good ↦
            let row-is = subst (λ (l : List ℕ). row_in width y l ≡ Ok good.0) line-is good.1 in
            elim (bind_err (cells_in y 0 above good.0) (λ cells. rows_in width (y + 1) more cells left) fault good.2) [
              | inl bad ↦ cells_of_row y above read inside there good.0 fault row-is bad
              | inr rest ↦
                  rows_fault (y + 1) more rest.0 left fault rest-is (omega (arith, all)) (next_row y above read inside there good.0 rest.0 row-is rest.1) rest.2
            ]
      ]

extra_fault : (left : List (List ℕ)) (number line : ℕ) → extra_in number left ≡ Some line
    → (blanks : ℕ) × AllByRecursion (λ l. IsTrue (is_blank l)) (take blanks left) × (line ≡ number + blanks) × (blanks < length left) × (is_blank (get_or left blanks []) ≡ false)
unfolding extra_in
extra_fault [] number line e = absurd cc
extra_fault (first ∷ left) number line e = elim (cases_Bool (is_blank first)) [
  | inl blank ↦
      let rest = extra_fault left (number + 1) line (rw blank at e) in
      (suc rest.0, (blank, rest.1), omega (arith, rest.2), omega (arith, rest.3), rest.4)
  | inr other ↦
      let found : Some number ≡ Some line = rw other at e in
      let same : number ≡ line = cc in
      (0, tt, omega arith, omega arith, other)
]

ended_err : (m : Map) (o : Option ℕ) (fault : MapFault) → ended m o ≡ Err fault → (line : ℕ) × (o ≡ Some line) × (Extra line ≡ fault)
ended_err m None fault e = absurd cc
ended_err m (Some line) fault e = (line, refl, cc)

-- the rows are right, and a line after them is not blank
after_fault : (lines : List (List ℕ)) (width height line : ℕ) (cells : List Terrain) → IsReadTo lines width height height cells
    → extra_in (5 + height) (drop (4 + height) lines) ≡ Some line → IsExtraLine lines line
after_fault lines width height line cells read e =
    let found = extra_fault (drop (4 + height) lines) (5 + height) line e in
    let there : 4 + height + found.0 < length lines = omega (arith, found.3, length-drop (4 + height) lines) in
    let at : get_or (drop (4 + height) lines) found.0 [] ≡ line_at lines line =
    get_or-drop (4 + height) lines found.0 [] ∙ ap (λ (k : ℕ). get_or lines k []) (let same : 4 + height + found.0 ≡ line - 1 = omega (arith, found.2) in same) in
    record {
      width = width;
      height = height;
      cells = cells;
      blanks = found.0;
      before = read;
      blank = found.1;
      number = found.2;
      there = there;
      text = sym (ap is_blank at) ∙ found.4;
    }

pub refusals_name_first : RefusalsNameTheFirstFault
unfolding map_of AreRows
refusals_name_first text fault e =
    let lines = lines_of text in
    let made : ℕ × ℕ → List Terrain → Map = λ s cells. record { width = s.0; height = s.1; terrain = cells } in
    elim (bind_err (header_in lines)
    (λ s. rows_in s.0 0 s.1 [] (drop 4 lines) >>= λ cells. ended (made s cells) (extra_in (5 + s.1) (drop (4 + s.1) lines))) fault e) [
      | inl bad ↦ header_fault lines fault bad
      | inr good ↦
          let s = good.0 in
          let header = header_is lines s good.1 in
          let none : IsReadTo lines s.0 s.1 0 [] = record { header = header; above = refl; few = omega arith } in
          elim (bind_err (rows_in s.0 0 s.1 [] (drop 4 lines)) (λ cells. ended (made s cells) (extra_in (5 + s.1) (drop (4 + s.1) lines))) fault good.2) [
            | inl bad ↦ rows_fault lines s.0 s.1 0 s.1 [] (drop 4 lines) fault refl (omega arith) none bad
            | inr rest ↦
                let rows = rows_are s.0 0 s.1 [] (drop 4 lines) rest.0 (omega arith) rest.1 in
                let read : IsReadTo lines s.0 s.1 s.1 rest.0 = record {
                  header = header;
                  above = subst (λ (cs : List Terrain). AreRows s.0 s.1 cs (drop 4 lines)) (sym rows.joined) rows.fits;
                  few = rows.few;
                } in
                let last = ended_err (made s rest.0) (extra_in (5 + s.1) (drop (4 + s.1) lines)) fault rest.2 in
                let is : IsFirstFault lines (Extra last.0) = after_fault lines s.0 s.1 last.0 rest.0 read last.1 in
                subst (λ (f : MapFault). IsFirstFault lines f) last.2 is
          ]
    ]
