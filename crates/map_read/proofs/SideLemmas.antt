-- All lengths above 4,096 give one answer, and what the four lines of the header give.
use Rattle.std.proofs.Common.{◌≡◌, ℕ, ◌*◌, true, false, leb, ◌&&◌, List, [], ◌∷◌, get_or, drop, Option, Some, None, Result, Ok, Err, refl, sym, ap, ◌∙◌, ◌⊎◌, arith, inl, inr}
use Rattle.std.specs.Prelude.{option_and_then, codes, if◌then◌else◌}
use Rattle.std.specs.Option.{option_map}
use Rattle.std.specs.Str.{bytes_eq}
use Rattle.std.proofs.lemmas.Bool.{cases_lt, cases_Bool, lt-leb, and_right, and_left, and_parts, leb-true, and_from, le-leb}
use Rattle.std.proofs.lemmas.List.{get_or-drop, drop-drop}
use Rattle.std.proofs.lemmas.Slice.Eq.{bytes_eq-Decides}
use Rattle.moves.specs.Maps.{IsWithinLimits}
use Rattle.text_lines.specs.Judging.{◌>>=◌, wanted}
use Rattle.text_lines.specs.Numbers.{number_in}
use Rattle.text_lines.specs.Words.{words_of, two_of, has_words}
use Rattle.map_read.specs.Inside.{capped}
use Rattle.map_read.specs.declared.fault.MapFault.{MapFault}
use Rattle.map_read.specs.declared.fault.MapFault.TheVariants.{Header, Size}
use Rattle.map_read.specs.MapText.{number_named, other_side, judged_sides, sides_given, sides_from, is_side_length, are_map_sides, line_at, header_in}

-- a length is kept, or neither it nor what is given for it is one of a side
capped_cases : (n : ℕ) → (capped n ≡ n) ⊎ ((is_side_length (capped n) ≡ false) × (is_side_length n ≡ false))
capped_cases n = elim (cases_lt 4096 n) [
  | inl above ↦ inr (and_right (leb 1 (capped n)) _ (lt-leb (capped n) 4096 (omega arith)), and_right (leb 1 n) _ (lt-leb n 4096 above))
  | inr within ↦ inl (omega arith)
]

bad_width : (w h : ℕ) → is_side_length w ≡ false → judged_sides w h ≡ Err (Size 3)
bad_width w h e = rw e refl

bad_height : (w h : ℕ) → is_side_length h ≡ false → judged_sides w h ≡ Err (Size 3)
bad_height w h e =
    let none : are_map_sides w h ≡ false = and_left _ _ (and_right (is_side_length w) _ e) in
    rw none refl

width_capped : (w h : ℕ) → judged_sides (capped w) h ≡ judged_sides w h
width_capped w h = elim (capped_cases w) [
  | inl same ↦ ap (λ (n : ℕ). judged_sides n h) same
  | inr off ↦ bad_width (capped w) h off.0 ∙ sym (bad_width w h off.1)
]

height_capped : (w h : ℕ) → judged_sides w (capped h) ≡ judged_sides w h
height_capped w h = elim (capped_cases h) [
  | inl same ↦ ap (λ (n : ℕ). judged_sides w n) same
  | inr off ↦ bad_height w (capped h) off.0 ∙ sym (bad_height w h off.1)
]

bad_one : (n : ℕ) (other : Option ℕ) → is_side_length n ≡ false → other_side n other ≡ Err (Size 2)
bad_one n other e = rw e refl

good_one : (n : ℕ) (other : Option ℕ) → is_side_length n ≡ true → other_side n other ≡ wanted other (Header 3)
good_one n other e = rw e refl

one_capped : (n : ℕ) (other : Option ℕ) → other_side (capped n) other ≡ other_side n other
one_capped n other = elim (capped_cases n) [
  | inl same ↦ ap (λ (k : ℕ). other_side k other) same
  | inr off ↦ bad_one (capped n) other off.0 ∙ sym (bad_one n other off.1)
]

-- what follows may give one answer at a length and at what is given for it
after_wanted : (next : ℕ → Result (ℕ × ℕ) MapFault) → ((k : ℕ) → next (capped k) ≡ next k) → (other : Option ℕ)
    → (wanted (option_map capped other) (Header 3) >>= next) ≡ (wanted other (Header 3) >>= next)
after_wanted next same None = refl
after_wanted next same (Some k) = same k

other_capped : (next : ℕ → Result (ℕ × ℕ) MapFault) → ((k : ℕ) → next (capped k) ≡ next k) → (n : ℕ) (other : Option ℕ)
    → (other_side n (option_map capped other) >>= next) ≡ (other_side n other >>= next)
other_capped next same n other = elim (cases_Bool (is_side_length n)) [
  | inl good ↦ rw good (after_wanted next same other)
  | inr bad ↦ rw bad refl
]

bind_same : (r : Result ℕ MapFault) (f g : ℕ → Result (ℕ × ℕ) MapFault) → ((x : ℕ) → f x ≡ g x) → (r >>= f) ≡ (r >>= g)
bind_same (Ok x) f g same = same x
bind_same (Err fault) f g same = refl

pub sides_capped : (second_height second_width third_height third_width : Option ℕ)
    → sides_given (option_map capped second_height) (option_map capped second_width) (option_map capped third_height) (option_map capped third_width)
    ≡ sides_given second_height second_width third_height third_width
unfolding sides_given
sides_capped (Some h) second_width third_height third_width =
    bind_same (other_side (capped h) (option_map capped third_width)) (λ w. judged_sides w (capped h)) (λ w. judged_sides w h) (λ w. height_capped w h)
    ∙ ap (λ (r : Result ℕ MapFault). r >>= λ w. judged_sides w h) (one_capped h (option_map capped third_width))
    ∙ other_capped (λ w. judged_sides w h) (λ w. width_capped w h) h third_width
sides_capped None (Some w) third_height third_width =
    bind_same (other_side (capped w) (option_map capped third_height)) (λ h. judged_sides (capped w) h) (λ h. judged_sides w h) (λ h. width_capped w h)
    ∙ ap (λ (r : Result ℕ MapFault). r >>= λ h. judged_sides w h) (one_capped w (option_map capped third_height))
    ∙ other_capped (λ h. judged_sides w h) (λ h. height_capped w h) w third_height
sides_capped None None third_height third_width = refl

-- ---- names

named_once : (two : Option (List ℕ × List ℕ)) (name other : List ℕ) (n : ℕ) → bytes_eq name other ≡ false
    → option_and_then (λ t. if bytes_eq t.0 name then number_in t.1 else None) two ≡ Some n
    → option_and_then (λ t. if bytes_eq t.0 other then number_in t.1 else None) two ≡ None
named_once None name other n differ e = refl
named_once (Some (word, digits)) name other n differ e = elim (cases_Bool (bytes_eq word name)) [
  | inl same ↦
      let word-is : word ≡ name = (bytes_eq-Decides word name).0 same in
      let not_other : bytes_eq word other ≡ false = rw word-is differ in
      rw not_other refl
  | inr not_same ↦ let none : None ≡ Some n = rw not_same at e in absurd cc
]

-- a line gives a number under one name at most
pub one_name : (line name other : List ℕ) (n : ℕ) → bytes_eq name other ≡ false → number_named name line ≡ Some n → number_named other line ≡ None
unfolding number_named
one_name line name other n differ e = named_once (two_of (words_of line)) name other n differ e

-- ---- the four lines

-- the lines of the header, taken one after another
pub record AreTaken (lines one two three : List (List ℕ)) : Type 0 where
  pub first : one ≡ drop 1 lines
  pub second : two ≡ drop 1 one
  pub third : three ≡ drop 1 two

module _ (lines one two three : List (List ℕ)) (taken : AreTaken lines one two three) where
  two_is : two ≡ drop 2 lines
  two_is = taken.second ∙ ap (λ (ls : List (List ℕ)). drop 1 ls) taken.first ∙ drop-drop 1 1 lines

  three_is : three ≡ drop 3 lines
  three_is = taken.third ∙ ap (λ (ls : List (List ℕ)). drop 1 ls) two_is ∙ drop-drop 1 2 lines

  pub line_two : get_or one 0 [] ≡ line_at lines 2
  line_two = ap (λ (ls : List (List ℕ)). get_or ls 0 []) taken.first ∙ get_or-drop 1 lines 0 []

  pub line_three : get_or two 0 [] ≡ line_at lines 3
  line_three = ap (λ (ls : List (List ℕ)). get_or ls 0 []) two_is ∙ get_or-drop 2 lines 0 []

  pub line_four : get_or three 0 [] ≡ line_at lines 4
  line_four = ap (λ (ls : List (List ℕ)). get_or ls 0 []) three_is ∙ get_or-drop 3 lines 0 []

  -- what was made of the second and the third line
  pub sides_taken : (result : Result (ℕ × ℕ) MapFault) (second third : List ℕ) → sides_from second third ≡ result
      → second ≡ get_or one 0 [] → third ≡ get_or two 0 [] → sides_from (line_at lines 2) (line_at lines 3) ≡ result
  sides_taken result second third is second-is third-is =
      rw (← line_two, ← line_three, ← second-is, ← third-is) is

abbrev type_words : List (List ℕ)
type_words = codes "type" ∷ codes "octile" ∷ []

abbrev map_words : List (List ℕ)
map_words = codes "map" ∷ []

pub header_no_type : (lines : List (List ℕ)) → has_words type_words (line_at lines 1) ≡ false → header_in lines ≡ Err (Header 1)
unfolding header_in
header_no_type lines no' = rw no' refl

pub header_no_sides : (lines : List (List ℕ)) (fault : MapFault) → has_words type_words (line_at lines 1) ≡ true
    → sides_from (line_at lines 2) (line_at lines 3) ≡ Err fault → header_in lines ≡ Err fault
unfolding header_in
header_no_sides lines fault kind e = rw (kind, e) refl

pub header_no_map : (lines : List (List ℕ)) (sides : ℕ × ℕ) → has_words type_words (line_at lines 1) ≡ true
    → sides_from (line_at lines 2) (line_at lines 3) ≡ Ok sides → has_words map_words (line_at lines 4) ≡ false → header_in lines ≡ Err (Header 4)
unfolding header_in
header_no_map lines sides kind e end = rw (kind, e, end) refl

pub header_yes : (lines : List (List ℕ)) (sides : ℕ × ℕ) → has_words type_words (line_at lines 1) ≡ true
    → sides_from (line_at lines 2) (line_at lines 3) ≡ Ok sides → has_words map_words (line_at lines 4) ≡ true → header_in lines ≡ Ok sides
unfolding header_in
header_yes lines sides kind e end = rw (kind, e, end) refl

-- the same of lines that were taken one after another
module _ (lines one two three : List (List ℕ)) (taken : AreTaken lines one two three) (first second third fourth : List ℕ)
    (first-is : first ≡ get_or lines 0 []) (second-is : second ≡ get_or one 0 []) (third-is : third ≡ get_or two 0 [])
    (fourth-is : fourth ≡ get_or three 0 []) (sides : ℕ × ℕ) (kind : has_words type_words first ≡ true)
    (is : sides_from second third ≡ Ok sides) where
  kind_taken : has_words type_words (line_at lines 1) ≡ true
  kind_taken = ap (has_words type_words) (sym first-is) ∙ kind

  sides_are : sides_from (line_at lines 2) (line_at lines 3) ≡ Ok sides
  sides_are = sides_taken lines one two three taken (Ok sides) second third is second-is third-is

  end_taken : has_words map_words (line_at lines 4) ≡ has_words map_words fourth
  end_taken = ap (has_words map_words) (sym (fourth-is ∙ line_four lines one two three taken))

  pub taken_no_map : has_words map_words fourth ≡ false → header_in lines ≡ Err (Header 4)
  taken_no_map end = header_no_map lines sides kind_taken sides_are (end_taken ∙ end)

  pub taken_yes : has_words map_words fourth ≡ true → header_in lines ≡ Ok sides
  taken_yes end = header_yes lines sides kind_taken sides_are (end_taken ∙ end)

-- ---- the limits

pub sides_within : (w h : ℕ) → are_map_sides w h ≡ true → IsWithinLimits w h
sides_within w h e =
    let all = and_parts (is_side_length w && is_side_length h) (leb (w * h) 1048576) e in
    let both = and_parts (is_side_length w) (is_side_length h) all.0 in
    let columns = and_parts (leb 1 w) (leb w 4096) both.0 in
    let rows = and_parts (leb 1 h) (leb h 4096) both.1 in
    record {
      some_columns = leb-true 1 w columns.0;
      some_rows = leb-true 1 h rows.0;
      columns = leb-true w 4096 columns.1;
      rows = leb-true h 4096 rows.1;
      cells = leb-true (w * h) 1048576 all.1;
    }

pub width_within : (w h : ℕ) → IsWithinLimits w h → is_side_length w ≡ true
width_within w h within = and_from (leb 1 w) (leb w 4096) (le-leb 1 w within.some_columns) (le-leb w 4096 within.columns)

pub height_within : (w h : ℕ) → IsWithinLimits w h → is_side_length h ≡ true
height_within w h within = and_from (leb 1 h) (leb h 4096) (le-leb 1 h within.some_rows) (le-leb h 4096 within.rows)

pub within_sides : (w h : ℕ) → IsWithinLimits w h → are_map_sides w h ≡ true
within_sides w h within =
    let sides = and_from (is_side_length w) (is_side_length h) (width_within w h within) (height_within w h within) in
    and_from (is_side_length w && is_side_length h) (leb (w * h) 1048576) sides (le-leb (w * h) 1048576 within.cells)
