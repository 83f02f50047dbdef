-- Reading the text of scenarios gives these scenarios.
use Rattle.std.proofs.Common.{◌≡◌, ℕ, zero, suc, ◌+◌, ◌-◌, ◌*◌, ◌/◌, ◌%◌, ◌^◌, ◌<◌, ◌≤◌, Bool, true, false, ◌||◌, eqb, ltb, leb, List, [], ◌∷◌, ◌++◌, length, get_or, take, drop, All, Some, refl, sym, ap, subst, ◌∙◌, arith, inl, inr}
use Rattle.std.specs.Prelude.{map, codes, replicate}
use Rattle.std.specs.List.{slice_split, list_any, join_with_byte, AllByRecursion}
use Rattle.std.specs.Str.{all_ascii_digits}
use Rattle.std.specs.Char.{is_ascii_digit}
use Rattle.std.specs.Fmt.{decimal}
use Rattle.std.proofs.Math.Nat.{pow-succ', one-le-pow}
use Rattle.std.proofs.Math.Arith.{mod-mul}
use Rattle.std.proofs.lemmas.Bool.{le-leb, lt-ltb, ne_eqb, and_from}
use Rattle.std.proofs.lemmas.Fmt.{length-decimal-le, decimal_nonempty}
use Rattle.std.proofs.lemmas.List.{take_at, get_or_append_left}
use Rattle.std.proofs.lemmas.List.Elements.{All-append, All-cons}
use Rattle.std.proofs.lemmas.List.Folds.{list_all_at, list_any-append}
use Rattle.std.proofs.lemmas.List.Splits.{slice_split_at, slice_split_none}
use Rattle.text_lines.specs.Lines.{lines_of}
use Rattle.text_lines.specs.Numbers.{number_after}
use Rattle.text_lines.specs.Words.{is_gap, is_blank, words_of, without_gaps, without_gaps_at_end}
use Rattle.text_lines.proofs.LineLemmas.{IsKept, AreKept, lines_with_feeds, printed_is_kept, no_return_kept}
use Rattle.text_lines.proofs.NumberLemmas.{digits_of_decimal, number_in_decimal, number_at_most_decimal, digit_at}
use Rattle.text_lines.proofs.WordLemmas.{end_kept, gaps_kept}
use Rattle.scen_read.specs.declared.scenario.ScenLine.{ScenLine}
use Rattle.scen_read.specs.Fields.{is_tab, fields_in, fields_of}
use Rattle.scen_read.specs.ScenText.{greatest_number, greatest_coordinate, nanos_in, whole_in, decimals_in, length_of_parts, length_in}
use Rattle.scen_read.specs.Accepted.{SayScenario, AreScenarios, IsVersionLine, IsScenarioText}
use Rattle.scen_read.specs.Written.{last_digits, length_text, field_texts, scenario_text, text_of, IsName, IsWritable, AreWritable, WrittenScenariosReadBack}
use Rattle.scen_read.proofs.AcceptedLemmas.{text_back}

-- ---- the last digits of a number

one_digit : (m digit unit whole low big : ℕ) → whole ≡ (10 * m + (48 + digit - 48)) * unit + low → big ≡ digit * unit + low → whole ≡ m * (10 * unit) + big
one_digit m digit unit whole low big whole-is big-is =
    let same : 48 + digit - 48 ≡ digit = omega arith in
    whole-is ∙ rw (same, big-is) (omega arith)

last_value : (count n m : ℕ) → number_after m (last_digits count n) ≡ m * 10 ^ count + n % 10 ^ count
unfolding last_digits
last_value zero n m = omega arith
last_value (suc count) n m =
    let unit = 10 ^ count in
    let rest = last_value count n (10 * m + (48 + n / unit % 10 - 48)) in
    let big = mod-mul n {m = 10} {c = unit} (omega arith) (one-le-pow count 10 (omega arith)) in
    rw (pow-succ' 10 count) (one_digit m (n / unit % 10) unit _ _ _ rest big)

last_are_digits : (count n : ℕ) → all_ascii_digits (last_digits count n) ≡ true
unfolding last_digits
last_are_digits zero n = refl
last_are_digits (suc count) n =
    let digit = n / 10 ^ count % 10 in
    let low : leb 48 (48 + digit) ≡ true = le-leb 48 (48 + digit) (omega arith) in
    let high : leb (48 + digit) 57 ≡ true = le-leb (48 + digit) 57 (omega arith) in
    and_from (is_ascii_digit (48 + digit)) (all_ascii_digits (last_digits count n)) (and_from (leb 48 (48 + digit)) (leb (48 + digit) 57) low high) (last_are_digits count n)

length-last : (count n : ℕ) → length (last_digits count n) ≡ count
unfolding last_digits
length-last zero n = refl
length-last (suc count) n = ap suc (length-last count n)

-- digits are no other byte
digits_clear : (digits : List ℕ) (other : ℕ) → all_ascii_digits digits ≡ true → other < 48 → All (λ byte. eqb byte other ≡ false) digits
digits_clear digits other e low = λ k d lt. let at = (digit_at digits k d e lt).0 in ne_eqb (get_or digits k d) other (λ same. omega (arith, at, same))

-- ---- a length

pub length_back : (nano : ℕ) → nano < 10 ^ 16 → length_in (length_text nano) ≡ Some nano
unfolding length_in
length_back nano small =
    let whole = nano / 10 ^ 9 in
    let digits = last_digits 9 nano in
    let below : whole < 10 ^ 7 = omega arith in
    let under : whole < 2 ^ 64 = omega arith in
    let all = digits_of_decimal whole under in
    let point : ℕ → Bool = λ byte. eqb byte 46 in
    let split : slice_split point (decimal whole ++ 46 ∷ digits) ≡ decimal whole ∷ digits ∷ [] =
    slice_split_at point (decimal whole) 46 digits (digits_clear (decimal whole) 46 all (omega arith)) refl
    ∙ ap (λ (parts : List (List ℕ)). decimal whole ∷ parts) (slice_split_none point digits (digits_clear digits 46 (last_are_digits 9 nano) (omega arith))) in
    let short : leb (length (decimal whole)) 7 ≡ true = le-leb (length (decimal whole)) 7 (length-decimal-le 7 whole (omega arith) below under) in
    let whole-is : whole_in (decimal whole) ≡ Some whole = rw short (number_in_decimal whole under) in
    let long : length digits ≡ 9 = length-last 9 nano in
    let some : ltb 0 (length digits) ≡ true = lt-ltb 0 (length digits) (omega (arith, long)) in
    let nine : take 9 (digits ++ replicate 9 48) ≡ digits = take_at digits (replicate 9 48) 9 long in
    let value : nanos_in digits ≡ nano % 10 ^ 9 = ap (number_after 0) nine ∙ last_value 9 nano 0 ∙ (let zero' : 0 * 10 ^ 9 + nano % 10 ^ 9 ≡ nano % 10 ^ 9 = omega arith in zero') in
    let decimals-are : decimals_in digits ≡ Some (nano % 10 ^ 9) = rw (some, last_are_digits 9 nano, value) refl in
    let sum : whole * 10 ^ 9 + nano % 10 ^ 9 ≡ nano = omega arith in
    ap length_of_parts split ∙ rw (whole-is, decimals-are) (ap (λ (n : ℕ). Some n) sum)

-- ---- a line ends in a digit

pub record EndsInDigit (line : List ℕ) : Type 0 where
  pub some : 0 < length line
  pub low : 48 ≤ get_or line (length line - 1) 0

ends_cons : (byte : ℕ) (line : List ℕ) → EndsInDigit line → EndsInDigit (byte ∷ line)
ends_cons byte [] ends = absurd (let some = ends.some in omega (arith, some))
ends_cons byte (next ∷ line) ends =
    let same : suc (length (next ∷ line) - 1) ≡ length (byte ∷ next ∷ line) - 1 = omega arith in
    record { some = omega arith; low = subst (λ (k : ℕ). 48 ≤ get_or (byte ∷ next ∷ line) k 0) same ends.low }

ends_append : (front line : List ℕ) → EndsInDigit line → EndsInDigit (front ++ line)
ends_append [] line ends = ends
ends_append (byte ∷ front) line ends = ends_cons byte (front ++ line) (ends_append front line ends)

ends_joined : (fields : List (List ℕ)) (last : List ℕ) → EndsInDigit last → EndsInDigit (join_with_byte 9 (fields ++ last ∷ []))
ends_joined [] last ends = ends
ends_joined (field ∷ []) last ends = ends_append field (9 ∷ last) (ends_cons 9 last ends)
ends_joined (field ∷ next ∷ fields) last ends =
    let rest = ends_joined (next ∷ fields) last ends in
    ends_append field (9 ∷ join_with_byte 9 ((next ∷ fields) ++ last ∷ [])) (ends_cons 9 _ rest)

digits_end : (digits : List ℕ) → all_ascii_digits digits ≡ true → 0 < length digits → EndsInDigit digits
digits_end digits e some = record { some = some; low = (digit_at digits (length digits - 1) 0 e (omega arith)).0 }

length_ends : (nano : ℕ) → EndsInDigit (length_text nano)
length_ends nano =
    let digits = last_digits 9 nano in
    ends_append (decimal (nano / 10 ^ 9)) (46 ∷ digits) (ends_cons 46 digits (digits_end digits (last_are_digits 9 nano) (omega (arith, length-last 9 nano))))

no_gap_from : (byte : ℕ) → 48 ≤ byte → is_gap byte ≡ false
no_gap_from byte low = rw (ne_eqb byte 32 (λ e. omega (arith, low, e)), ne_eqb byte 9 (λ e. omega (arith, low, e))) refl

ends_not_blank : (line : List ℕ) → EndsInDigit line → is_blank line ≡ false
ends_not_blank line ends = list_all_at is_gap line (length line - 1) 0 (let some = ends.some in omega (arith, some)) (no_gap_from _ ends.low)

ends_kept : (line : List ℕ) → EndsInDigit line → without_gaps_at_end line ≡ line
ends_kept line ends = end_kept line (λ some. no_gap_from _ ends.low)

-- ---- fields that stand between tabs

abbrev AllClear : (ℕ → Bool) → List (List ℕ) → Type 0
AllClear other fields = AllByRecursion (λ field. All (λ byte. other byte ≡ false) field) fields

split_joined : (field : List ℕ) (fields : List (List ℕ)) → AllClear is_tab (field ∷ fields) → slice_split is_tab (join_with_byte 9 (field ∷ fields)) ≡ field ∷ fields
split_joined field [] clear = slice_split_none is_tab field clear.0
split_joined field (next ∷ fields) clear =
    slice_split_at is_tab field 9 (join_with_byte 9 (next ∷ fields)) clear.0 refl ∙ ap (λ (fs : List (List ℕ)). field ∷ fs) (split_joined next fields clear.1)

all_joined : (other : ℕ → Bool) (fields : List (List ℕ)) → other 9 ≡ false → AllClear other fields → All (λ byte. other byte ≡ false) (join_with_byte 9 fields)
all_joined other [] tab clear = λ k d lt. absurd (omega arith)
all_joined other (field ∷ []) tab clear = clear.0
all_joined other (field ∷ next ∷ fields) tab clear =
    All-append (λ byte. other byte ≡ false) field (9 ∷ join_with_byte 9 (next ∷ fields)) clear.0
    (All-cons (λ byte. other byte ≡ false) 9 (join_with_byte 9 (next ∷ fields)) tab (all_joined other (next ∷ fields) tab clear.1))

any_right : (b : Bool) → (b || true) ≡ true
any_right true = refl
any_right false = refl

has_tab : (field : List ℕ) (rest : List ℕ) → list_any is_tab (field ++ 9 ∷ rest) ≡ true
has_tab field rest = list_any-append is_tab field (9 ∷ rest) ∙ any_right (list_any is_tab field)

-- ---- the fields of a scenario

abbrev small : ℕ → Type 0
small n = n < 2 ^ 64

number_clear : (n other : ℕ) → small n → other < 48 → All (λ byte. eqb byte other ≡ false) (decimal n)
number_clear n other s low = digits_clear (decimal n) other (digits_of_decimal n s) low

length_clear : (nano other : ℕ) → small nano → other < 46 → All (λ byte. eqb byte other ≡ false) (length_text nano)
length_clear nano other s low =
    let digits = last_digits 9 nano in
    All-append (λ byte. eqb byte other ≡ false) (decimal (nano / 10 ^ 9)) (46 ∷ digits) (number_clear (nano / 10 ^ 9) other (omega arith) (omega arith))
    (All-cons (λ byte. eqb byte other ≡ false) 46 digits (ne_eqb 46 other (λ e. omega (arith, e))) (digits_clear digits other (last_are_digits 9 nano) (omega arith)))

number_kept : (n : ℕ) → small n → without_gaps (decimal n) ≡ decimal n
number_kept n s =
    let digits = decimal n in
    let all = digits_of_decimal n s in
    gaps_kept digits (λ some. no_gap_from _ (digit_at digits 0 0 all some).0) (λ some. no_gap_from _ (digit_at digits (length digits - 1) 0 all (omega arith)).0)

length_kept : (nano : ℕ) → small nano → without_gaps (length_text nano) ≡ length_text nano
length_kept nano s =
    let digits = decimal (nano / 10 ^ 9) in
    let under : small (nano / 10 ^ 9) = omega arith in
    let first : get_or (length_text nano) 0 0 ≡ get_or digits 0 0 = get_or_append_left digits (46 ∷ last_digits 9 nano) 0 0 (decimal_nonempty (nano / 10 ^ 9) under) in
    let low = (digit_at digits 0 0 (digits_of_decimal (nano / 10 ^ 9) under) (decimal_nonempty (nano / 10 ^ 9) under)).0 in
    gaps_kept (length_text nano) (λ some. rw first (no_gap_from _ low)) (λ some. no_gap_from _ (length_ends nano).low)

name_kept : (name : List ℕ) → IsName name → without_gaps name ≡ name
name_kept name is =
    gaps_kept name
    (λ some. rw (ne_eqb (get_or name 0 0) 32 is.no_space_first, ne_eqb (get_or name 0 0) 9 (is.no_tab 0 0 some)) refl)
    (λ some.
    let lt : length name - 1 < length name = omega arith in
    rw (ne_eqb (get_or name (length name - 1) 0) 32 is.no_space_last, ne_eqb (get_or name (length name - 1) 0) 9 (is.no_tab (length name - 1) 0 lt)) refl)

module _ (s : ScenLine) (w : IsWritable s) where
  -- no field has this byte
  fields_clear : (other : ℕ) → other < 46 → All (λ byte. eqb byte other ≡ false) s.name → AllClear (λ byte. eqb byte other) (field_texts s)
  fields_clear other low name = (
    number_clear s.bucket other (omega (arith, w.bucket)) (omega arith),
    (
      name,
      (
        number_clear s.width other (omega (arith, w.width)) (omega arith),
        (
          number_clear s.height other (omega (arith, w.height)) (omega arith),
          (
            number_clear s.start.x other (omega (arith, w.start_x)) (omega arith),
            (
              number_clear s.start.y other (omega (arith, w.start_y)) (omega arith),
              (
                number_clear s.goal.x other (omega (arith, w.goal_x)) (omega arith),
                (number_clear s.goal.y other (omega (arith, w.goal_y)) (omega arith), (length_clear s.nano other (omega (arith, w.nano)) low, tt)),
              ),
            ),
          ),
        ),
      ),
    ),
  )

  no_tabs : All (λ byte. is_tab byte ≡ false) s.name
  no_tabs = λ k d lt. ne_eqb (get_or s.name k d) 9 (w.name.no_tab k d lt)

  no_feeds : All (λ byte. eqb byte 10 ≡ false) s.name
  no_feeds = λ k d lt. ne_eqb (get_or s.name k d) 10 (w.name.no_feed k d lt)

  ends : EndsInDigit (scenario_text s)
  ends =
      ends_joined
      (decimal s.bucket ∷ s.name ∷ decimal s.width ∷ decimal s.height ∷ decimal s.start.x ∷ decimal s.start.y ∷ decimal s.goal.x ∷ decimal s.goal.y ∷ [])
      (length_text s.nano) (length_ends s.nano)

  fields_back : fields_of (scenario_text s) ≡ field_texts s
  unfolding fields_in
  fields_back =
      let tab : list_any is_tab (scenario_text s) ≡ true = has_tab (decimal s.bucket) (join_with_byte 9 (drop 1 (field_texts s))) in
      let pieces : slice_split is_tab (scenario_text s) ≡ field_texts s = split_joined (decimal s.bucket) (drop 1 (field_texts s)) (fields_clear 9 (omega arith) no_tabs) in
      let kept : map without_gaps (field_texts s) ≡ field_texts s =
      rw (
        number_kept s.bucket (omega (arith, w.bucket)),
        name_kept s.name w.name,
        number_kept s.width (omega (arith, w.width)),
        number_kept s.height (omega (arith, w.height)),
        number_kept s.start.x (omega (arith, w.start_x)),
        number_kept s.start.y (omega (arith, w.start_y)),
        number_kept s.goal.x (omega (arith, w.goal_x)),
        number_kept s.goal.y (omega (arith, w.goal_y)),
        length_kept s.nano (omega (arith, w.nano)),
      ) refl in
      ap fields_in (ends_kept (scenario_text s) ends) ∙ rw tab (ap (map without_gaps) pieces ∙ kept)

  pub line_says : SayScenario (fields_of (scenario_text s)) s
  line_says =
      let is : SayScenario (field_texts s) s = record {
        nine = refl;
        bucket = number_at_most_decimal greatest_number s.bucket w.bucket (omega (arith, w.bucket));
        name = refl;
        width = number_at_most_decimal greatest_number s.width w.width (omega (arith, w.width));
        height = number_at_most_decimal greatest_number s.height w.height (omega (arith, w.height));
        start_x = number_at_most_decimal greatest_coordinate s.start.x w.start_x (omega (arith, w.start_x));
        start_y = number_at_most_decimal greatest_coordinate s.start.y w.start_y (omega (arith, w.start_y));
        goal_x = number_at_most_decimal greatest_coordinate s.goal.x w.goal_x (omega (arith, w.goal_x));
        goal_y = number_at_most_decimal greatest_coordinate s.goal.y w.goal_y (omega (arith, w.goal_y));
        nano = length_back s.nano w.nano;
      } in
      subst (λ (fs : List (List ℕ)). SayScenario fs s) (sym fields_back) is

  pub line_kept : IsKept (scenario_text s)
  line_kept = record {
    one = all_joined (λ byte. eqb byte 10) (field_texts s) refl (fields_clear 10 (omega arith) no_feeds);
    whole = no_return_kept (scenario_text s) (λ some. let low = ends.low in omega (arith, low));
  }

  pub line_not_blank : is_blank (scenario_text s) ≡ false
  line_not_blank = ends_not_blank (scenario_text s) ends

-- ---- all lines

abbrev Rest : List ScenLine → Type 0
Rest scenarios = AreWritable scenarios

head_writable : (s : ScenLine) (scenarios : List ScenLine) → AreWritable (s ∷ scenarios) → IsWritable s
head_writable s scenarios all = all 0 s (omega arith)

rest_writable : (s : ScenLine) (scenarios : List ScenLine) → AreWritable (s ∷ scenarios) → AreWritable scenarios
rest_writable s scenarios all = λ k d lt. all (suc k) d (omega arith)

lines_kept : (scenarios : List ScenLine) → AreWritable scenarios → AreKept (map scenario_text scenarios)
unfolding AreKept
lines_kept [] all = tt
lines_kept (s ∷ scenarios) all = (line_kept s (head_writable s scenarios all), lines_kept scenarios (rest_writable s scenarios all))

lines_say : (scenarios : List ScenLine) → AreWritable scenarios → AreScenarios (map scenario_text scenarios) scenarios
unfolding AreScenarios
lines_say [] all = refl
lines_say (s ∷ scenarios) all =
    let w = head_writable s scenarios all in
    inr (s, scenarios, refl, (line_not_blank s w, line_says s w), lines_say scenarios (rest_writable s scenarios all))

text_lines_are : (scenarios : List ScenLine) → AreWritable scenarios → lines_of (text_of scenarios) ≡ codes "version 1" ∷ map scenario_text scenarios
unfolding text_of AreKept
text_lines_are scenarios all = lines_with_feeds (codes "version 1" ∷ map scenario_text scenarios) (printed_is_kept (codes "version 1") refl, lines_kept scenarios all)

version_is : IsVersionLine (codes "version 1")
unfolding words_of
version_is = inl refl

pub written_reads_back : WrittenScenariosReadBack
written_reads_back scenarios writable =
    let lines = text_lines_are scenarios writable in
    let is : IsScenarioText (text_of scenarios) scenarios = record {
      version = subst (λ (ls : List (List ℕ)). IsVersionLine (get_or ls 0 [])) (sym lines) version_is;
      scenarios_are = subst (λ (ls : List (List ℕ)). AreScenarios (drop 1 ls) scenarios) (sym lines) (lines_say scenarios writable);
    } in
    text_back (text_of scenarios) scenarios is
