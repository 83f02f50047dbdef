-- A text is accepted exactly where it stands for a map.
use Rattle.std.proofs.Common.{◌≡◌, ℕ, zero, suc, ◌+◌, ◌≤◌, true, eqb, List, [], ◌∷◌, ◌++◌, length, take, drop, Option, Some, None, Result, Ok, refl, sym, ap, subst, ◌∙◌, ◌⊎◌, append_assoc, arith, inl, inr}
use Rattle.std.specs.Prelude.{codes, IsTrue}
use Rattle.std.specs.List.{AllByRecursion}
use Rattle.std.proofs.lemmas.Bool.{cases_Bool, eqb-true, eq-eqb}
use Rattle.std.proofs.lemmas.List.{append-nil, take_at, drop_at, take-append-drop, drop-drop}
use Rattle.moves.specs.declared.Terrain.{Terrain}
use Rattle.moves.specs.Maps.{Map, IsWithinLimits}
use Rattle.moves.proofs.Marks.{count_open}
use Rattle.text_lines.specs.Judging.{◌>>=◌, wanted, checked}
use Rattle.text_lines.specs.Lines.{lines_of}
use Rattle.text_lines.specs.Words.{has_words, is_blank, without_gaps_at_end}
use Rattle.text_lines.proofs.JudgingLemmas.{bind_ok, checked_ok, wanted_ok}
use Rattle.text_lines.proofs.WordTests.{words_from_test, test_from_words}
use Rattle.map_read.specs.declared.fault.MapFault.{MapFault}
use Rattle.map_read.specs.declared.fault.MapFault.TheVariants.{Header, Size, RowLength}
use Rattle.map_read.specs.MapText.{other_side, judged_sides, sides_given, sides_from, is_side_length, are_map_sides, line_at, header_in, cell_of, free_in, cells_in, row_in, rows_in, extra_in, ended, map_of}
use Rattle.map_read.specs.Accepted.{StandFor, IsRow, AreRows, AreSides, IsHeader, IsMapText, AcceptsExactlyMapTexts}
use Rattle.map_read.proofs.SideLemmas.{sides_within, within_sides, width_within, height_within, one_name, header_yes}
use Rattle.map_read.proofs.RowLemmas.{IsCell, cell_is, cell_back, count_push, count_joined}
use Rattle.map_read.proofs.MapLemmas.{map_whole}

ended_ok : (n m : Map) (o : Option ℕ) → ended n o ≡ Ok m → (o ≡ None) × (n ≡ m)
ended_ok n m None e = (refl, cc)
ended_ok n m (Some line) e = absurd cc

-- ---- the header

-- what the second line and the third give
abbrev AreGiven : Option ℕ → Option ℕ → Option ℕ → Option ℕ → ℕ × ℕ → Type 0
AreGiven second_height second_width third_height third_width sides =
    ((second_height ≡ Some sides.1) × (third_width ≡ Some sides.0)) ⊎ ((third_height ≡ Some sides.1) × (second_width ≡ Some sides.0))

other_ok : (one : ℕ) (other : Option ℕ) (n : ℕ) → other_side one other ≡ Ok n → (is_side_length one ≡ true) × (other ≡ Some n)
other_ok one other n e =
    let a = bind_ok (checked (is_side_length one) one (Size 2)) (λ _. wanted other (Header 3)) n e in
    let b = checked_ok (is_side_length one) one a.0 (Size 2) a.1 in
    (b.0, wanted_ok other n (Header 3) a.2)

pub sides_are : (second_height second_width third_height third_width : Option ℕ) (sides : ℕ × ℕ)
    → sides_given second_height second_width third_height third_width ≡ Ok sides
    → AreGiven second_height second_width third_height third_width sides × (are_map_sides sides.0 sides.1 ≡ true)
unfolding sides_given
sides_are (Some h) second_width third_height third_width sides e =
    let a = bind_ok (other_side h third_width) (λ w. judged_sides w h) sides e in
    let other = other_ok h third_width a.0 a.1 in
    let b = checked_ok (are_map_sides a.0 h) (a.0, h) sides (Size 3) a.2 in
    subst (λ (s : ℕ × ℕ). AreGiven (Some h) second_width third_height third_width s × (are_map_sides s.0 s.1 ≡ true)) b.1 (inl (refl, other.1), b.0)
sides_are None (Some w) third_height third_width sides e =
    let a = bind_ok (other_side w third_height) (λ h. judged_sides w h) sides e in
    let other = other_ok w third_height a.0 a.1 in
    let b = checked_ok (are_map_sides w a.0) (w, a.0) sides (Size 3) a.2 in
    subst (λ (s : ℕ × ℕ). AreGiven None (Some w) third_height third_width s × (are_map_sides s.0 s.1 ≡ true)) b.1 (inr (other.1, refl), b.0)
sides_are None None third_height third_width sides e = absurd cc

judged_good : (w h : ℕ) → are_map_sides w h ≡ true → judged_sides w h ≡ Ok (w, h)
judged_good w h e = rw e refl

other_good : (one n : ℕ) → is_side_length one ≡ true → other_side one (Some n) ≡ Ok n
other_good one n e = rw e refl

given_back : (second_height second_width third_height third_width : Option ℕ) (w h : ℕ) → IsWithinLimits w h
    → (second_height ≡ Some h) × (third_width ≡ Some w) → sides_given second_height second_width third_height third_width ≡ Ok (w, h)
unfolding sides_given
given_back second_height second_width third_height third_width w h within e =
    let first = other_good h w (height_within w h within) in
    rw (e.0, e.1) (ap (λ (r : Result ℕ MapFault). r >>= λ k. judged_sides k h) first ∙ judged_good w h (within_sides w h within))

given_back_other : (second_height second_width third_height third_width : Option ℕ) (w h : ℕ) → IsWithinLimits w h
    → second_height ≡ None → (third_height ≡ Some h) × (second_width ≡ Some w) → sides_given second_height second_width third_height third_width ≡ Ok (w, h)
unfolding sides_given
given_back_other second_height second_width third_height third_width w h within none e =
    let first = other_good w h (width_within w h within) in
    rw (none, e.1, e.0) (ap (λ (r : Result ℕ MapFault). r >>= λ k. judged_sides w k) first ∙ judged_good w h (within_sides w h within))

sides_back : (second third : List ℕ) (w h : ℕ) → IsWithinLimits w h → AreSides second third w h ⊎ AreSides third second w h → sides_from second third ≡ Ok (w, h)
sides_back second third w h within given = elim given [
  | inl e ↦ given_back _ _ _ _ w h within e
  | inr e ↦ given_back_other _ _ _ _ w h within (one_name second (codes "width") (codes "height") w refl e.1) e
]

-- ---- the rows

pub stand_length : (bytes : List ℕ) (cells : List Terrain) → StandFor bytes cells → length bytes ≡ length cells
unfolding StandFor
stand_length [] [] stand = refl
stand_length [] (cell ∷ cells) stand = absurd stand
stand_length (byte ∷ bytes) [] stand = absurd stand
stand_length (byte ∷ bytes) (cell ∷ cells) stand = ap suc (stand_length bytes cells stand.1)

-- cells that were read, after those before
pub record HasRead (before all : List Terrain) (Fits : List Terrain → Type 0) : Type 0 where
  pub cells : List Terrain
  pub joined : all ≡ before ++ cells
  pub fits : Fits cells
  pub few : free_in all ≤ 32768

pub cells_are : (y x : ℕ) (before : List Terrain) (row : List ℕ) (all : List Terrain) → free_in before ≤ 32768 → cells_in y x before row ≡ Ok all
    → HasRead before all (λ cells. StandFor row cells)
unfolding cells_in StandFor
cells_are y x before [] all few e =
    let same : before ≡ all = cc in
    record { cells = []; joined = sym same ∙ sym (append-nil before); fits = tt; few = subst (λ (cs : List Terrain). free_in cs ≤ 32768) same few }
cells_are y x before (byte ∷ row) all few e =
    let a = bind_ok (cell_of x y byte (free_in before)) (λ terrain. cells_in y (x + 1) (before ++ terrain ∷ []) row) all e in
    let cell = a.0 in
    let is = cell_is x y byte (free_in before) cell few a.1 in
    let rest = cells_are y (x + 1) (before ++ cell ∷ []) row all (omega (arith, is.limit, count_push before cell)) a.2 in
    record {
      cells = cell ∷ rest.cells;
      joined = rest.joined ∙ append_assoc before (cell ∷ []) rest.cells;
      fits = (is.stands, rest.fits);
      few = rest.few;
    }

pub row_is : (width y : ℕ) (line row : List ℕ) → row_in width y line ≡ Ok row → (without_gaps_at_end line ≡ row) × (length row ≡ width)
unfolding row_in
row_is width y line row e =
    let a = checked_ok (eqb (length (without_gaps_at_end line)) width) (without_gaps_at_end line) row (RowLength (5 + y) width (length (without_gaps_at_end line))) e in
    (a.1, sym (ap (λ (r : List ℕ). length r) a.1) ∙ eqb-true (length (without_gaps_at_end line)) width a.0)

pub rows_are : (width y rows : ℕ) (before : List Terrain) (lines : List (List ℕ)) (all : List Terrain) → free_in before ≤ 32768 → rows_in width y rows before lines ≡ Ok all
    → HasRead before all (λ cells. AreRows width rows cells lines)
unfolding rows_in AreRows
rows_are width y zero before lines all few e =
    let same : before ≡ all = cc in
    record { cells = []; joined = sym same ∙ sym (append-nil before); fits = refl; few = subst (λ (cs : List Terrain). free_in cs ≤ 32768) same few }
rows_are width y (suc rows) before [] all few e = absurd cc
rows_are width y (suc rows) before (line ∷ lines) all few e =
    let a = bind_ok (row_in width y line) (λ row. cells_in y 0 before row >>= λ cells. rows_in width (y + 1) rows cells lines) all e in
    let b = bind_ok (cells_in y 0 before a.0) (λ cells. rows_in width (y + 1) rows cells lines) all a.2 in
    let row = row_is width y line a.0 a.1 in
    let first = cells_are y 0 before a.0 b.0 few b.1 in
    let rest = rows_are width (y + 1) rows b.0 lines all first.few b.2 in
    let wide : length first.cells ≡ width = sym (stand_length a.0 first.cells first.fits) ∙ row.1 in
    let bytes : StandFor (without_gaps_at_end line) first.cells = subst (λ (r : List ℕ). StandFor r first.cells) (sym row.0) first.fits in
    let front : take width (first.cells ++ rest.cells) ≡ first.cells = take_at first.cells rest.cells width wide in
    let back : drop width (first.cells ++ rest.cells) ≡ rest.cells = drop_at first.cells rest.cells width wide in
    record {
      cells = first.cells ++ rest.cells;
      joined = rest.joined ∙ ap (λ (cs : List Terrain). cs ++ rest.cells) first.joined ∙ append_assoc before first.cells rest.cells;
      fits = (rw front (record { wide = wide; bytes = bytes }), rw back rest.fits);
      few = rest.few;
    }

cells_back : (y x : ℕ) (before : List Terrain) (row : List ℕ) (cells : List Terrain) → StandFor row cells → free_in (before ++ cells) ≤ 32768
    → cells_in y x before row ≡ Ok (before ++ cells)
unfolding cells_in StandFor
cells_back y x before [] [] stand few = ap (λ (cs : List Terrain). Ok cs) (sym (append-nil before))
cells_back y x before [] (cell ∷ cells) stand few = absurd stand
cells_back y x before (byte ∷ row) [] stand few = absurd stand
cells_back y x before (byte ∷ row) (cell ∷ cells) stand few =
    let parts : (before ++ cell ∷ []) ++ cells ≡ before ++ cell ∷ cells = append_assoc before (cell ∷ []) cells in
    let same = ap (λ (cs : List Terrain). free_in cs) parts in
    let count = count_joined (before ++ cell ∷ []) cells in
    let one = count_push before cell in
    let is : IsCell byte (free_in before) cell = record { stands = stand.0; limit = omega (arith, few, count, one, same) } in
    let first : cell_of x y byte (free_in before) ≡ Ok cell = cell_back x y byte (free_in before) cell is in
    let rest = cells_back y (x + 1) (before ++ cell ∷ []) row cells stand.1 (omega (arith, few, same)) in
    rw first (rest ∙ ap (λ (cs : List Terrain). Ok cs) parts)

row_back : (width y : ℕ) (cells : List Terrain) (line : List ℕ) → IsRow width cells line → row_in width y line ≡ Ok (without_gaps_at_end line)
unfolding row_in
row_back width y cells line is =
    let wide : length (without_gaps_at_end line) ≡ width = stand_length (without_gaps_at_end line) cells is.bytes ∙ is.wide in
    rw (eq-eqb (length (without_gaps_at_end line)) width wide) refl

rows_back : (width y rows : ℕ) (before cells : List Terrain) (lines : List (List ℕ)) → AreRows width rows cells lines → free_in (before ++ cells) ≤ 32768
    → rows_in width y rows before lines ≡ Ok (before ++ cells)
unfolding rows_in AreRows
rows_back width y zero before cells lines none few = ap (λ (cs : List Terrain). Ok cs) (sym (append-nil before) ∙ ap (λ (cs : List Terrain). before ++ cs) (sym none))
rows_back width y (suc rows) before cells [] are few = absurd are
rows_back width y (suc rows) before cells (line ∷ lines) are few =
    let whole : (before ++ take width cells) ++ drop width cells ≡ before ++ cells =
    append_assoc before (take width cells) (drop width cells) ∙ ap (λ (cs : List Terrain). before ++ cs) (take-append-drop width cells) in
    let same = ap (λ (cs : List Terrain). free_in cs) whole in
    let count = count_joined (before ++ take width cells) (drop width cells) in
    let row = row_back width y (take width cells) line are.0 in
    let filled = cells_back y 0 before (without_gaps_at_end line) (take width cells) are.0.bytes (omega (arith, few, same, count)) in
    let rest = rows_back width (y + 1) rows (before ++ take width cells) (drop width cells) lines are.1 (omega (arith, few, same)) in
    rw (row, filled) (rest ∙ ap (λ (cs : List Terrain). Ok cs) whole)

-- ---- the lines after the rows

after_are : (number : ℕ) (lines : List (List ℕ)) → extra_in number lines ≡ None → AllByRecursion (λ line. IsTrue (is_blank line)) lines
unfolding extra_in
after_are number [] e = tt
after_are number (line ∷ lines) e = elim (cases_Bool (is_blank line)) [
  | inl blank ↦ (blank, after_are (number + 1) lines (rw blank at e))
  | inr other ↦ let no' : Some number ≡ None = rw other at e in absurd cc
]

after_back : (number : ℕ) (lines : List (List ℕ)) → AllByRecursion (λ line. IsTrue (is_blank line)) lines → extra_in number lines ≡ None
unfolding extra_in
after_back number [] all = refl
after_back number (line ∷ lines) all = rw all.0 (after_back (number + 1) lines all.1)

-- ---- the whole text

pub header_is : (lines : List (List ℕ)) (sides : ℕ × ℕ) → header_in lines ≡ Ok sides → IsHeader lines sides.0 sides.1
unfolding header_in
header_is lines sides e =
    let h = bind_ok (checked (has_words (codes "type" ∷ codes "octile" ∷ []) (line_at lines 1)) lines (Header 1))
    (λ kind. sides_from (line_at lines 2) (line_at lines 3) >>= λ s. checked (has_words (codes "map" ∷ []) (line_at lines 4)) s (Header 4)) sides e in
    let kind = checked_ok (has_words (codes "type" ∷ codes "octile" ∷ []) (line_at lines 1)) lines h.0 (Header 1) h.1 in
    let t = bind_ok (sides_from (line_at lines 2) (line_at lines 3)) (λ s. checked (has_words (codes "map" ∷ []) (line_at lines 4)) s (Header 4)) sides h.2 in
    let mark = checked_ok (has_words (codes "map" ∷ []) (line_at lines 4)) t.0 sides (Header 4) t.2 in
    let both = sides_are _ _ _ _ sides (t.1 ∙ ap (λ (u : ℕ × ℕ). Ok u) mark.1) in
    record {
      given = record {
        kind = words_from_test (codes "type" ∷ codes "octile" ∷ []) (line_at lines 1) kind.0;
        sides = both.0;
        limits = sides_within sides.0 sides.1 both.1;
      };
      mark = words_from_test (codes "map" ∷ []) (line_at lines 4) mark.0;
    }

pub header_back : (lines : List (List ℕ)) (w h : ℕ) → IsHeader lines w h → header_in lines ≡ Ok (w, h)
header_back lines w h is =
    let sides = sides_back (line_at lines 2) (line_at lines 3) w h is.given.limits is.given.sides in
    header_yes lines (w, h) (test_from_words _ (line_at lines 1) is.given.kind) sides (test_from_words _ (line_at lines 4) is.mark)

text_is : (text : List ℕ) (m : Map) → map_of text ≡ Ok m → IsMapText text m
unfolding map_of
text_is text m e =
    let lines = lines_of text in
    let made : ℕ × ℕ → List Terrain → Map = λ s cells. record { width = s.0; height = s.1; terrain = cells } in
    let a = bind_ok (header_in lines)
    (λ s. rows_in s.0 0 s.1 [] (drop 4 lines) >>= λ cells. ended (made s cells) (extra_in (5 + s.1) (drop (4 + s.1) lines))) m e in
    let s = a.0 in
    let b = bind_ok (rows_in s.0 0 s.1 [] (drop 4 lines)) (λ cells. ended (made s cells) (extra_in (5 + s.1) (drop (4 + s.1) lines))) m a.2 in
    let end = ended_ok (made s b.0) m (extra_in (5 + s.1) (drop (4 + s.1) lines)) b.2 in
    let rows = rows_are s.0 0 s.1 [] (drop 4 lines) b.0 (omega arith) b.1 in
    let is : IsMapText text (made s b.0) = record {
      header = header_is lines s a.1;
      rows = subst (λ (cells : List Terrain). AreRows s.0 s.1 cells (drop 4 lines)) (sym rows.joined) rows.fits;
      few = subst (λ (n : ℕ). n ≤ 32768) (count_open b.0) rows.few;
      after = after_are (5 + s.1) (drop (4 + s.1) lines) end.0;
    } in
    subst (λ (n : Map). IsMapText text n) end.1 is

text_back : (text : List ℕ) (m : Map) → IsMapText text m → map_of text ≡ Ok m
text_back text m is =
    let lines = lines_of text in
    let header = header_back lines m.width m.height is.header in
    let few : free_in m.terrain ≤ 32768 = subst (λ (n : ℕ). n ≤ 32768) (sym (count_open m.terrain)) is.few in
    let rows = rows_back m.width 0 m.height [] m.terrain (drop 4 lines) is.rows few in
    let rest = drop-drop m.height 4 lines in
    let end = ap (extra_in (5 + m.height)) rest ∙ after_back (5 + m.height) (drop (4 + m.height) lines) is.after in
    map_whole text lines (drop 4 lines) refl refl m.width m.height header m.terrain (drop m.height (drop 4 lines)) rows refl end

pub accepts_map_texts : AcceptsExactlyMapTexts
accepts_map_texts text m = (text_is text m, text_back text m)
