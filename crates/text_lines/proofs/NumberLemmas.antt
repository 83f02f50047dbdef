-- The number that a word is.
use Rattle.std.proofs.Common.{◌≡◌, ℕ, zero, suc, ◌+◌, ◌-◌, ◌*◌, ◌^◌, min, ◌<◌, ◌≤◌, true, false, eqb, ltb, leb, List, [], ◌∷◌, length, get_or, drop, All, Option, Some, None, refl, sym, ap, ◌∙◌, arith, rules, inl, inr}
use Rattle.std.specs.Prelude.{option_and_then, if◌then◌else◌}
use Rattle.std.specs.Char.{is_ascii_digit}
use Rattle.std.specs.Str.{all_ascii_digits}
use Rattle.std.specs.Option.{option_map}
use Rattle.std.specs.Fmt.{decimal}
use Rattle.std.proofs.lemmas.Bool.{cases_Bool, eqb-true, lt-ltb, le-ltb, le-leb, lt-leb, leb-true, ne_eqb, and_right, and_parts}
use Rattle.std.proofs.Math.Nat.{pow-succ'}
use Rattle.std.proofs.lemmas.List.{drop_more, drop_all}
use Rattle.std.proofs.lemmas.Nat.{mul-le}
use Rattle.std.proofs.lemmas.Str.Parse.{IsNumeralModel, numerals_by_fold, tells_all_ascii_digits}
use Rattle.std.proofs.lemmas.Fmt.{digits_decimal, digits_value-decimal, decimal_nonempty}
use Rattle.text_lines.specs.Words.{is_gap}
use Rattle.text_lines.specs.Numbers.{number_after, number_in, capped, number_at_most}

pub no_number : (word : List ℕ) → eqb (length word) 0 ≡ true → number_in word ≡ None
unfolding number_in
no_number word e = let none : ltb 0 (length word) ≡ false = le-ltb 0 (length word) (omega (arith, eqb-true (length word) 0 e)) in rw none refl

pub no_digits : (word : List ℕ) → all_ascii_digits word ≡ false → number_in word ≡ None
unfolding number_in
no_digits word e = rw (e, and_right (ltb 0 (length word)) false refl) refl

pub is_number : (word : List ℕ) → 0 < length word → all_ascii_digits word ≡ true → number_in word ≡ Some (number_after 0 word)
unfolding number_in
is_number word some e = rw (e, lt-ltb 0 (length word) some) refl

number_after_capped : (most n m : ℕ) (digits : List ℕ) → capped most n ≡ capped most m → capped most (number_after n digits) ≡ capped most (number_after m digits)
number_after_capped most n m [] e = e
number_after_capped most n m (digit ∷ digits) e = number_after_capped most (10 * n + (digit - 48)) (10 * m + (digit - 48)) digits (omega arith)

-- what has been read of a word: all digits so far, and the number that they write
pub record IsReadTo (most : ℕ) (word : List ℕ) (i number : ℕ) : Type 0 where
  pub value : capped most (number_after number (drop i word)) ≡ capped most (number_after 0 word)
  pub digits : all_ascii_digits (drop i word) ≡ all_ascii_digits word
  pub limit : number ≤ most + 1

pub read_none : (most : ℕ) (word : List ℕ) → IsReadTo most word 0 0
read_none most word = record { value = refl; digits = refl; limit = omega arith }

pub read_more : (most : ℕ) (word : List ℕ) (i number byte next : ℕ) → i < length word → byte ≡ get_or word i 0 → is_ascii_digit byte ≡ true
    → next ≡ min (number * 10 + (byte - 48)) (most + 1) → IsReadTo most word i number → IsReadTo most word (i + 1) next
read_more most word i number byte next lt is digit next-is so_far =
    let parts : drop i word ≡ byte ∷ drop (i + 1) word = rw is (drop_more word i 0 lt) in
    let same : capped most (number_after next (drop (i + 1) word)) ≡ capped most (number_after (10 * number + (byte - 48)) (drop (i + 1) word)) =
    number_after_capped most next (10 * number + (byte - 48)) (drop (i + 1) word) (omega arith) in
    let step : number_after number (drop i word) ≡ number_after (10 * number + (byte - 48)) (drop (i + 1) word) = ap (number_after number) parts in
    let all : all_ascii_digits (drop i word) ≡ all_ascii_digits (drop (i + 1) word) = ap all_ascii_digits parts ∙ rw digit refl in
    record { value = same ∙ sym (ap (capped most) step) ∙ so_far.value; digits = sym all ∙ so_far.digits; limit = omega arith }

pub read_no_digit : (most : ℕ) (word : List ℕ) (i number byte : ℕ) → i < length word → byte ≡ get_or word i 0 → is_ascii_digit byte ≡ false → IsReadTo most word i number → number_in word ≡ None
read_no_digit most word i number byte lt is digit so_far =
    let parts : drop i word ≡ byte ∷ drop (i + 1) word = rw is (drop_more word i 0 lt) in
    let all : all_ascii_digits (drop i word) ≡ false = ap all_ascii_digits parts ∙ rw digit refl in
    no_digits word (sym so_far.digits ∙ all)

pub read_all : (most : ℕ) (word : List ℕ) (i number : ℕ) → 0 < length word → length word ≤ i → IsReadTo most word i number → Some number ≡ option_map (capped most) (number_in word)
read_all most word i number some le so_far =
    let end : drop i word ≡ [] = drop_all i word le in
    let digits : all_ascii_digits word ≡ true = sym so_far.digits ∙ ap all_ascii_digits end in
    let value : capped most number ≡ capped most (number_after 0 word) = sym (ap (λ (ds : List ℕ). capped most (number_after number ds)) end) ∙ so_far.value in
    let same : number ≡ capped most (number_after 0 word) = omega (arith, so_far.limit, value) in
    rw (is_number word some digits, same) refl

-- ---- a number with a greatest one

pub above_most : (most number : ℕ) (found : Option ℕ) → Some number ≡ option_map (capped most) found → most < number
    → option_and_then (λ n. if leb n most then Some n else None) found ≡ None
above_most most number None e above = absurd cc
above_most most number (Some n) e above =
    let same : number ≡ capped most n = cc in
    let over : leb n most ≡ false = lt-leb n most (omega (arith, same)) in
    rw over refl

pub within_most : (most number : ℕ) (found : Option ℕ) → Some number ≡ option_map (capped most) found → number ≤ most
    → option_and_then (λ n. if leb n most then Some n else None) found ≡ Some number
within_most most number None e within = absurd cc
within_most most number (Some n) e within =
    let same : number ≡ capped most n = cc in
    let exact : n ≡ number = omega (arith, same) in
    let under : leb n most ≡ true = le-leb n most (omega (arith, exact)) in
    rw (under, exact) refl

pub no_number_at_most : (most : ℕ) (word : List ℕ) → None ≡ option_map (capped most) (number_in word) → number_at_most most word ≡ None
unfolding number_at_most
no_number_at_most most word e = none (number_in word) e where
  none : (found : Option ℕ) → None ≡ option_map (capped most) found → option_and_then (λ n. if leb n most then Some n else None) found ≡ None
  none None e = refl
  none (Some n) e = absurd cc

pub number_above : (most number : ℕ) (word : List ℕ) → Some number ≡ option_map (capped most) (number_in word) → most < number → number_at_most most word ≡ None
unfolding number_at_most
number_above most number word e above = above_most most number (number_in word) e above

pub number_within : (most number : ℕ) (word : List ℕ) → Some number ≡ option_map (capped most) (number_in word) → number ≤ most → number_at_most most word ≡ Some number
unfolding number_at_most
number_within most number word e within = within_most most number (number_in word) e within

pub at_most_limit : (most n : ℕ) (word : List ℕ) → number_at_most most word ≡ Some n → n ≤ most
unfolding number_at_most
at_most_limit most n word e = limit (number_in word) e where
  limit : (found : Option ℕ) → option_and_then (λ k. if leb k most then Some k else None) found ≡ Some n → n ≤ most
  limit None e = absurd cc
  limit (Some k) e = elim (cases_Bool (leb k most)) [
    | inl under ↦
        let kept : Some k ≡ Some n = rw under at e in
        let same : k ≡ n = cc in
        omega (arith, leb-true k most under, same)
    | inr over ↦ let none : None ≡ Some n = rw over at e in absurd cc
  ]

-- ---- numbers as they are written

numerals : IsNumeralModel (λ ds. all_ascii_digits ds ≡ true) (number_after 0)
numerals = numerals_by_fold _ tells_all_ascii_digits number_after (search rules)

pub digits_of_decimal : (n : ℕ) → n < 2 ^ 64 → all_ascii_digits (decimal n) ≡ true
digits_of_decimal n small = digits_decimal numerals n small

pub value_of_decimal : (n : ℕ) → n < 2 ^ 64 → number_after 0 (decimal n) ≡ n
value_of_decimal n small = digits_value-decimal numerals n small

pub number_in_decimal : (n : ℕ) → n < 2 ^ 64 → number_in (decimal n) ≡ Some n
number_in_decimal n small =
    is_number (decimal n) (decimal_nonempty n small) (digits_of_decimal n small) ∙ ap (λ (k : ℕ). Some k) (value_of_decimal n small)

pub number_at_most_decimal : (most n : ℕ) → n ≤ most → n < 2 ^ 64 → number_at_most most (decimal n) ≡ Some n
unfolding number_at_most
number_at_most_decimal most n le small = rw (number_in_decimal n small, le-leb n most le) refl

-- each byte of digits is one
pub digit_at : (digits : List ℕ) (k d : ℕ) → all_ascii_digits digits ≡ true → k < length digits → (48 ≤ get_or digits k d) × (get_or digits k d ≤ 57)
digit_at [] k d e lt = absurd (omega arith)
digit_at (digit ∷ digits) zero d e lt =
    let parts = and_parts (is_ascii_digit digit) (all_ascii_digits digits) e in
    let both = and_parts (leb 48 digit) (leb digit 57) parts.0 in
    (leb-true 48 digit both.0, leb-true digit 57 both.1)
digit_at (digit ∷ digits) (suc k) d e lt =
    digit_at digits k d (and_parts (is_ascii_digit digit) (all_ascii_digits digits) e).1 (omega arith)

pub no_gap_in_digits : (digits : List ℕ) → all_ascii_digits digits ≡ true → All (λ byte. is_gap byte ≡ false) digits
no_gap_in_digits digits p = λ k d lt.
    let low = (digit_at digits k d p lt).0 in
    rw (ne_eqb (get_or digits k d) 32 (λ e. omega (arith, low, e)), ne_eqb (get_or digits k d) 9 (λ e. omega (arith, low, e))) refl

-- ---- how large a number is

one_digit_more : (n digit unit whole first rest : ℕ) → whole ≡ (10 * n + digit) * unit + rest → first ≡ (10 * 0 + digit) * unit + rest
    → whole ≡ n * (10 * unit) + first
one_digit_more n digit unit whole first rest whole-is first-is = omega arith

-- the digits before count as many times as their place says
pub number_shifted : (n : ℕ) (digits : List ℕ) → number_after n digits ≡ n * 10 ^ length digits + number_after 0 digits
number_shifted n [] = omega arith
number_shifted n (digit ∷ digits) =
    let unit = 10 ^ length digits in
    let here = number_shifted (10 * n + (digit - 48)) digits in
    let first = number_shifted (10 * 0 + (digit - 48)) digits in
    let step = one_digit_more n (digit - 48) unit _ _ _ here first in
    rw (pow-succ' 10 (length digits)) step

small_step : (digit unit whole rest : ℕ) → whole ≡ (10 * 0 + digit) * unit + rest → digit ≤ 9 → rest < unit → whole < 10 * unit
small_step digit unit whole rest whole-is le lt = omega (arith, mul-le digit unit 9 unit le (omega arith))

-- a number of so many digits is below that power of ten
pub number_small : (digits : List ℕ) → all_ascii_digits digits ≡ true → number_after 0 digits < 10 ^ length digits
number_small [] e = omega arith
number_small (digit ∷ digits) e =
    let parts = and_parts (is_ascii_digit digit) (all_ascii_digits digits) e in
    let high = leb-true digit 57 (and_parts (leb 48 digit) (leb digit 57) parts.0).1 in
    let shifted = number_shifted (10 * 0 + (digit - 48)) digits in
    let step = small_step (digit - 48) (10 ^ length digits) _ _ shifted (omega (arith, high)) (number_small digits parts.1) in
    rw (pow-succ' 10 (length digits)) step
