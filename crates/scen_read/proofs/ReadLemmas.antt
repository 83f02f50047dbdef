-- What was read can be written: its names keep their places, and its numbers are in their ranges.
use Rattle.std.proofs.Common.{◌≡◌, ◌≢◌, ℕ, zero, suc, ◌+◌, ◌-◌, ◌*◌, ◌^◌, ◌<◌, ◌≤◌, Bool, true, false, ◌&&◌, eqb, ltb, leb, List, [], ◌∷◌, ◌++◌, length, get_or, take, drop, All, Option, Some, None, Ok, refl, sym, ap, subst, ◌∙◌, arith, inl, inr}
use Rattle.std.specs.Prelude.{filter, replicate, option_and_then}
use Rattle.std.specs.Option.{option_map}
use Rattle.std.specs.Char.{is_ascii_digit}
use Rattle.std.specs.List.{slice_split, list_any, onto_first}
use Rattle.std.specs.Str.{all_ascii_digits}
use Rattle.std.proofs.Math.Nat.{pow-le-pow_right}
use Rattle.std.proofs.lemmas.Bool.{cases_Bool, eq-eqb, leb-true, and_parts, and_from, false≢true}
use Rattle.std.proofs.lemmas.List.{length-take}
use Rattle.std.proofs.lemmas.List.Elements.{All-cons, All-filter, All-map, All-take, All-drop}
use Rattle.std.proofs.lemmas.List.Splits.{slice_split-cons_yes, slice_split-cons_no}
use Rattle.text_lines.specs.Lines.{pieces, without_return, last_line, lines_in, lines_of}
use Rattle.text_lines.specs.Numbers.{number_after, number_in}
use Rattle.text_lines.specs.Words.{is_gap, is_blank, is_some_piece, without_gaps, without_gaps_at_end, without_gaps_at_start}
use Rattle.text_lines.proofs.NumberLemmas.{number_small, at_most_limit}
use Rattle.scen_read.specs.declared.scenario.ScenLine.{ScenLine}
use Rattle.scen_read.specs.Fields.{is_tab, is_space, after_first_some, tab_fields, space_fields, fields_in, fields_of, field_at}
use Rattle.scen_read.specs.ScenText.{greatest_number, greatest_coordinate, nanos_in, whole_in, decimals_in, length_of_parts, length_in, scenarios_of}
use Rattle.scen_read.specs.Accepted.{SayScenario, AreScenarios}
use Rattle.scen_read.specs.Written.{IsName, IsWritable, AreWritable}
use Rattle.scen_read.proofs.AcceptedLemmas.{text_is}

-- ---- lengths

digits_taken : (digits : List ℕ) (k m : ℕ) → all_ascii_digits digits ≡ true → all_ascii_digits (take k (digits ++ replicate m 48)) ≡ true
digits_taken digits zero m e = refl
digits_taken [] (suc k) zero e = refl
digits_taken [] (suc k) (suc m) e = digits_taken [] k m refl
digits_taken (digit ∷ digits) (suc k) m e =
    let parts = and_parts (is_ascii_digit digit) (all_ascii_digits digits) e in
    and_from (is_ascii_digit digit) (all_ascii_digits (take k (digits ++ replicate m 48))) parts.0 (digits_taken digits k m parts.1)

nanos_below : (digits : List ℕ) → all_ascii_digits digits ≡ true → nanos_in digits < 10 ^ 9
nanos_below digits e =
    let nine = take 9 (digits ++ replicate 9 48) in
    let small = number_small nine (digits_taken digits 9 9 e) in
    let short : length nine ≤ 9 = omega (arith, length-take 9 (digits ++ replicate 9 48)) in
    let most : 10 ^ length nine ≤ 10 ^ 9 = pow-le-pow_right (omega arith) short in
    omega (arith, small, most)

decimals_below : (digits : List ℕ) (n : ℕ) → decimals_in digits ≡ Some n → n < 10 ^ 9
decimals_below digits n e = elim (cases_Bool (ltb 0 (length digits) && all_ascii_digits digits)) [
  | inl good ↦
      let found : Some (nanos_in digits) ≡ Some n = rw good at e in
      let same : nanos_in digits ≡ n = cc in
      let below = nanos_below digits (and_parts (ltb 0 (length digits)) (all_ascii_digits digits) good).1 in
      omega (arith, below, same)
  | inr bad ↦ let none : None ≡ Some n = rw bad at e in absurd cc
]

number_below : (digits : List ℕ) (n : ℕ) → length digits ≤ 7 → number_in digits ≡ Some n → n < 10 ^ 7
unfolding number_in
number_below digits n few e = elim (cases_Bool (ltb 0 (length digits) && all_ascii_digits digits)) [
  | inl good ↦
      let found : Some (number_after 0 digits) ≡ Some n = rw good at e in
      let same : number_after 0 digits ≡ n = cc in
      let small = number_small digits (and_parts (ltb 0 (length digits)) (all_ascii_digits digits) good).1 in
      let most : 10 ^ length digits ≤ 10 ^ 7 = pow-le-pow_right (omega arith) few in
      omega (arith, small, most, same)
  | inr bad ↦ let none : None ≡ Some n = rw bad at e in absurd cc
]

whole_below : (digits : List ℕ) (n : ℕ) → whole_in digits ≡ Some n → n < 10 ^ 7
whole_below digits n e = elim (cases_Bool (leb (length digits) 7)) [
  | inl few ↦ let found : number_in digits ≡ Some n = rw few at e in number_below digits n (leb-true (length digits) 7 few) found
  | inr many ↦ let none : None ≡ Some n = rw many at e in absurd cc
]

-- a whole part and its decimals
sum_below : (whole decimals : Option ℕ) (nano : ℕ) → ((n : ℕ) → whole ≡ Some n → n < 10 ^ 7) → ((n : ℕ) → decimals ≡ Some n → n < 10 ^ 9)
    → option_and_then (λ n. option_map (λ d. n * 10 ^ 9 + d) decimals) whole ≡ Some nano → nano < 10 ^ 16
sum_below None decimals nano w d e = absurd cc
sum_below (Some n) None nano w d e = absurd cc
sum_below (Some n) (Some m) nano w d e =
    let same : n * 10 ^ 9 + m ≡ nano = cc in
    omega (arith, same, w n refl, d m refl)

whole_alone : (whole : Option ℕ) (nano : ℕ) → ((n : ℕ) → whole ≡ Some n → n < 10 ^ 7) → option_map (λ n. n * 10 ^ 9) whole ≡ Some nano → nano < 10 ^ 16
whole_alone None nano w e = absurd cc
whole_alone (Some n) nano w e = let same : n * 10 ^ 9 ≡ nano = cc in omega (arith, same, w n refl)

parts_below : (parts : List (List ℕ)) (nano : ℕ) → length_of_parts parts ≡ Some nano → nano < 10 ^ 16
parts_below [] nano e = absurd cc
parts_below (whole ∷ []) nano e = whole_alone (whole_in whole) nano (whole_below whole) e
parts_below (whole ∷ decimals ∷ []) nano e = sum_below (whole_in whole) (decimals_in decimals) nano (whole_below whole) (decimals_below decimals) e
parts_below (whole ∷ decimals ∷ other ∷ parts) nano e = absurd cc

pub length_limit : (field : List ℕ) (nano : ℕ) → length_in field ≡ Some nano → nano < 10 ^ 16
unfolding length_in
length_limit field nano e = parts_below (slice_split (λ byte. eqb byte 46) field) nano e

-- ---- bytes that are nowhere in a text are nowhere in its parts

all_nil : {X : Type 0} (P : X → Type 0) → All P []
all_nil P = λ k d lt. absurd (omega arith)

all_head : {X : Type 0} (P : X → Type 0) (x : X) (xs : List X) → All P (x ∷ xs) → P x
all_head P x xs all = all 0 x (omega arith)

all_tail : {X : Type 0} (P : X → Type 0) (x : X) (xs : List X) → All P (x ∷ xs) → All P xs
all_tail P x xs all = λ k d lt. all (suc k) d (omega arith)

module _ (P : ℕ → Type 0) where
  first_keeps : (byte : ℕ) (parts : List (List ℕ)) → P byte → All (λ part. All P part) parts → All (λ part. All P part) (onto_first byte parts)
  first_keeps byte [] here all = All-cons (λ part. All P part) (byte ∷ []) [] (All-cons P byte [] here (all_nil P)) (all_nil (λ part. All P part))
  first_keeps byte (part ∷ parts) here all =
      All-cons (λ part. All P part) (byte ∷ part) parts (All-cons P byte part here (all_head (λ part. All P part) part parts all)) (all_tail (λ part. All P part) part parts all)

  -- the pieces have no other bytes than the text, and not those between pieces
  split_keeps : (test : ℕ → Bool) (text : List ℕ) → All (λ byte. test byte ≡ false → P byte) text → All (λ part. All P part) (slice_split test text)
  split_keeps test [] all = All-cons (λ part. All P part) [] [] (all_nil P) (all_nil (λ part. All P part))
  split_keeps test (byte ∷ text) all =
      let rest = split_keeps test text (all_tail (λ b. test b ≡ false → P b) byte text all) in
      elim (cases_Bool (test byte)) [
        | inl here ↦
            subst (λ (parts : List (List ℕ)). All (λ part. All P part) parts) (sym (slice_split-cons_yes test byte text here))
            (All-cons (λ part. All P part) [] (slice_split test text) (all_nil P) rest)
        | inr other ↦
            subst (λ (parts : List (List ℕ)). All (λ part. All P part) parts) (sym (slice_split-cons_no test byte text other))
            (first_keeps byte (slice_split test text) (all_head (λ b. test b ≡ false → P b) byte text all other) rest)
      ]

  start_keeps : (line : List ℕ) → All P line → All P (without_gaps_at_start line)
  unfolding without_gaps_at_start
  start_keeps [] all = all
  start_keeps (byte ∷ line) all = elim (cases_Bool (is_gap byte)) [
    | inl gap ↦ rw gap (start_keeps line (all_tail P byte line all))
    | inr other ↦ rw other all
  ]

  end_keeps : (line : List ℕ) → All P line → All P (without_gaps_at_end line)
  unfolding without_gaps_at_end
  end_keeps [] all = all
  end_keeps (byte ∷ line) all = elim (cases_Bool (is_blank (byte ∷ line))) [
    | inl blank ↦ rw blank (all_nil P)
    | inr other ↦ rw other (All-cons P byte (without_gaps_at_end line) (all_head P byte line all) (end_keeps line (all_tail P byte line all)))
  ]

  return_keeps : (line : List ℕ) → All P line → All P (without_return line)
  unfolding without_return
  return_keeps line all = elim (cases_Bool (eqb (get_or line (length line - 1) 0) 13)) [
    | inl at ↦ rw at (All-take P (length line - 1) line all)
    | inr other ↦ rw other all
  ]

-- ---- the lines have no line feed

abbrev IsNoFeed : ℕ → Type 0
IsNoFeed byte = byte ≢ 10

last_clear : (line : List ℕ) → All IsNoFeed line → All (λ l. All IsNoFeed l) (last_line line)
last_clear [] all = all_nil (λ l. All IsNoFeed l)
last_clear (byte ∷ line) all = All-cons (λ l. All IsNoFeed l) (byte ∷ line) [] all (all_nil (λ l. All IsNoFeed l))

lines_clear_in : (parts : List (List ℕ)) → All (λ part. All IsNoFeed part) parts → All (λ l. All IsNoFeed l) (lines_in parts)
unfolding lines_in
lines_clear_in [] all = all_nil (λ l. All IsNoFeed l)
lines_clear_in (part ∷ []) all = last_clear (without_return part) (return_keeps IsNoFeed part (all_head (λ p. All IsNoFeed p) part [] all))
lines_clear_in (part ∷ next ∷ parts) all =
    All-cons (λ l. All IsNoFeed l) (without_return part) (lines_in (next ∷ parts)) (return_keeps IsNoFeed part (all_head (λ p. All IsNoFeed p) part (next ∷ parts) all))
    (lines_clear_in (next ∷ parts) (all_tail (λ p. All IsNoFeed p) part (next ∷ parts) all))

not_equal : (byte other : ℕ) → eqb byte other ≡ false → byte ≢ other
not_equal byte other e = λ same. false≢true (sym e ∙ eq-eqb byte other same)

lines_clear : (text : List ℕ) → All (λ l. All IsNoFeed l) (lines_of text)
unfolding lines_of
lines_clear text = lines_clear_in (pieces text) (split_keeps IsNoFeed (λ byte. eqb byte 10) text (λ k d lt. not_equal (get_or text k d) 10))

-- ---- the fields of a line are names

-- no gap stands first, where a byte is there
start_is_no_gap : (line : List ℕ) → is_gap (get_or (without_gaps_at_start line) 0 0) ≡ false
unfolding without_gaps_at_start
start_is_no_gap [] = refl
start_is_no_gap (byte ∷ line) = elim (cases_Bool (is_gap byte)) [
  | inl gap ↦ rw gap (start_is_no_gap line)
  | inr other ↦ rw other other
]

end_keeps_first : (line : List ℕ) → is_gap (get_or line 0 0) ≡ false → is_gap (get_or (without_gaps_at_end line) 0 0) ≡ false
unfolding without_gaps_at_end
end_keeps_first [] e = refl
end_keeps_first (byte ∷ line) e = elim (cases_Bool (is_blank (byte ∷ line))) [
  | inl blank ↦ rw blank refl
  | inr other ↦ rw other e
]

last_of_cons : (byte : ℕ) (line : List ℕ) → 0 < length line → get_or (byte ∷ line) (length (byte ∷ line) - 1) 0 ≡ get_or line (length line - 1) 0
last_of_cons byte [] some = absurd (omega arith)
last_of_cons byte (next ∷ line) some =
    let same : length (byte ∷ next ∷ line) - 1 ≡ suc (length (next ∷ line) - 1) = omega arith in
    ap (λ (k : ℕ). get_or (byte ∷ next ∷ line) k 0) same

nothing_left_is_blank : (line : List ℕ) → without_gaps_at_end line ≡ [] → is_blank line ≡ true
unfolding without_gaps_at_end
nothing_left_is_blank [] e = refl
nothing_left_is_blank (byte ∷ line) e = elim (cases_Bool (is_blank (byte ∷ line))) [
  | inl blank ↦ blank
  | inr other ↦ let some : byte ∷ without_gaps_at_end line ≡ [] = rw other at e in absurd cc
]

end_is_no_gap : (line : List ℕ) → is_gap (get_or (without_gaps_at_end line) (length (without_gaps_at_end line) - 1) 0) ≡ false
unfolding without_gaps_at_end
end_is_no_gap [] = refl
end_is_no_gap (byte ∷ line) = elim (cases_Bool (is_blank (byte ∷ line))) [
  | inl blank ↦ rw blank refl
  | inr other ↦ rw other (after byte line other (without_gaps_at_end line) refl (end_is_no_gap line))
] where
  after : (byte : ℕ) (line : List ℕ) → is_blank (byte ∷ line) ≡ false → (rest : List ℕ) → without_gaps_at_end line ≡ rest
      → is_gap (get_or rest (length rest - 1) 0) ≡ false → is_gap (get_or (byte ∷ rest) (length (byte ∷ rest) - 1) 0) ≡ false
  after byte line other [] rest-is last = elim (cases_Bool (is_gap byte)) [
    | inr none ↦ none
    | inl gap ↦ let blank : is_blank (byte ∷ line) ≡ true = rw gap (nothing_left_is_blank line rest-is) in absurd (false≢true (sym other ∙ blank))
  ]
  after byte line other (next ∷ rest) rest-is last = rw (last_of_cons byte (next ∷ rest) (omega arith)) last

no_space_from : (byte : ℕ) → is_gap byte ≡ false → byte ≢ 32
no_space_from byte e = λ same. false≢true (sym e ∙ rw same refl)

-- a piece between tabs, without the gaps round it
trimmed_is_name : (piece : List ℕ) → All (λ byte. byte ≢ 9) piece → All IsNoFeed piece → IsName (without_gaps piece)
trimmed_is_name piece tabs feeds = record {
  no_tab = end_keeps (λ byte. byte ≢ 9) (without_gaps_at_start piece) (start_keeps (λ byte. byte ≢ 9) piece tabs);
  no_feed = end_keeps IsNoFeed (without_gaps_at_start piece) (start_keeps IsNoFeed piece feeds);
  no_space_first = no_space_from _ (end_keeps_first (without_gaps_at_start piece) (start_is_no_gap piece));
  no_space_last = no_space_from _ (end_is_no_gap (without_gaps_at_start piece));
}

-- a piece without spaces
spaceless_is_name : (piece : List ℕ) → All (λ byte. byte ≢ 32) piece → All (λ byte. byte ≢ 9) piece → All IsNoFeed piece → IsName piece
spaceless_is_name [] spaces tabs feeds = record { no_tab = tabs; no_feed = feeds; no_space_first = λ e. omega (arith, e); no_space_last = λ e. omega (arith, e) }
spaceless_is_name (byte ∷ piece) spaces tabs feeds = record {
  no_tab = tabs;
  no_feed = feeds;
  no_space_first = spaces 0 0 (omega arith);
  no_space_last = spaces (length (byte ∷ piece) - 1) 0 (omega arith);
}

tab_names : (text : List ℕ) → All IsNoFeed text → All IsName (tab_fields text)
tab_names text feeds =
    let tabs = split_keeps (λ byte. byte ≢ 9) is_tab text (λ k d lt. not_equal (get_or text k d) 9) in
    let clear = split_keeps IsNoFeed is_tab text (λ k d lt e. feeds k d lt) in
    All-map IsName without_gaps (slice_split is_tab text) (λ k d lt. trimmed_is_name (get_or (slice_split is_tab text) k d) (tabs k d lt) (clear k d lt))

after_first_keeps : (P : List ℕ → Type 0) (pieces : List (List ℕ)) → All P pieces → All P (after_first_some pieces)
after_first_keeps P [] all = all
after_first_keeps P (first ∷ others) all = All-cons P first (filter is_some_piece others) (all_head P first others all) (All-filter is_some_piece P others (all_tail P first others all))

no_tab_in : (text : List ℕ) → list_any is_tab text ≡ false → All (λ byte. byte ≢ 9) text
no_tab_in [] e = all_nil (λ byte. byte ≢ 9)
no_tab_in (byte ∷ text) e = elim (cases_Bool (is_tab byte)) [
  | inl here ↦ let some : true ≡ false = rw here at e in absurd (false≢true (sym some))
  | inr other ↦ let rest : list_any is_tab text ≡ false = rw other at e in All-cons (λ b. b ≢ 9) byte text (not_equal byte 9 other) (no_tab_in text rest)
]

space_names : (text : List ℕ) → list_any is_tab text ≡ false → All IsNoFeed text → All IsName (space_fields text)
space_names text none feeds =
    let no_tabs = no_tab_in text none in
    let spaces = split_keeps (λ byte. byte ≢ 32) is_space text (λ k d lt. not_equal (get_or text k d) 32) in
    let tabs = split_keeps (λ byte. byte ≢ 9) is_space text (λ k d lt e. no_tabs k d lt) in
    let clear = split_keeps IsNoFeed is_space text (λ k d lt e. feeds k d lt) in
    after_first_keeps IsName (slice_split is_space text) (λ k d lt. spaceless_is_name (get_or (slice_split is_space text) k d) (spaces k d lt) (tabs k d lt) (clear k d lt))

fields_are_names : (text : List ℕ) → All IsNoFeed text → All IsName (fields_in text)
unfolding fields_in
fields_are_names text feeds = elim (cases_Bool (list_any is_tab text)) [
  | inl some ↦ rw some (tab_names text feeds)
  | inr none ↦ rw none (space_names text none feeds)
]

-- ---- scenarios

said_is_writable : (fields : List (List ℕ)) (s : ScenLine) → All IsName fields → SayScenario fields s → IsWritable s
said_is_writable fields s names say = record {
  name = subst (λ (name : List ℕ). IsName name) say.name (names 1 [] (omega (arith, say.nine)));
  nano = length_limit (field_at fields 9) s.nano say.nano;
  bucket = at_most_limit greatest_number s.bucket (field_at fields 1) say.bucket;
  width = at_most_limit greatest_number s.width (field_at fields 3) say.width;
  height = at_most_limit greatest_number s.height (field_at fields 4) say.height;
  start_x = at_most_limit greatest_coordinate s.start.x (field_at fields 5) say.start_x;
  start_y = at_most_limit greatest_coordinate s.start.y (field_at fields 6) say.start_y;
  goal_x = at_most_limit greatest_coordinate s.goal.x (field_at fields 7) say.goal_x;
  goal_y = at_most_limit greatest_coordinate s.goal.y (field_at fields 8) say.goal_y;
}

lines_writable : (lines : List (List ℕ)) (scenarios : List ScenLine) → All (λ l. All IsNoFeed l) lines → AreScenarios lines scenarios → AreWritable scenarios
unfolding AreScenarios
lines_writable [] scenarios clear are = subst (λ (ss : List ScenLine). AreWritable ss) (sym are) (all_nil IsWritable)
lines_writable (line ∷ lines) scenarios clear are = elim are [
  | inl e ↦ lines_writable lines scenarios (all_tail (λ l. All IsNoFeed l) line lines clear) e.1
  | inr e ↦
      let feeds = end_keeps IsNoFeed line (all_head (λ l. All IsNoFeed l) line lines clear) in
      let first = said_is_writable (fields_of line) e.0 (fields_are_names (without_gaps_at_end line) feeds) e.3.1 in
      let rest = lines_writable lines e.1 (all_tail (λ l. All IsNoFeed l) line lines clear) e.4 in
      subst (λ (ss : List ScenLine). AreWritable ss) (sym e.2) (All-cons IsWritable e.0 e.1 first rest)
]

pub read_is_writable : (text : List ℕ) (scenarios : List ScenLine) → scenarios_of text ≡ Ok scenarios → AreWritable scenarios
read_is_writable text scenarios e =
    let is = text_is text scenarios e in
    let lines = lines_clear text in
    lines_writable (drop 1 (lines_of text)) scenarios (All-drop (λ l. All IsNoFeed l) 1 (lines_of text) lines) is.scenarios_are
