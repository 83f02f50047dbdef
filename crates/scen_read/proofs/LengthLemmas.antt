-- The length that a field states.
use Rattle.std.proofs.Common.{◌≡◌, ℕ, zero, suc, ◌+◌, ◌-◌, ◌*◌, ◌/◌, ◌^◌, ◌<◌, ◌≤◌, Bool, true, false, eqb, ltb, leb, ◌&&◌, List, [], ◌∷◌, ◌++◌, length, get_or, take, drop, Option, Some, None, refl, sym, ap, ◌∙◌, arith, inl, inr}
use Rattle.std.specs.Prelude.{replicate, option_and_then}
use Rattle.std.specs.Option.{option_map}
use Rattle.std.specs.List.{slice_split}
use Rattle.std.specs.Char.{is_ascii_digit}
use Rattle.std.specs.Str.{all_ascii_digits}
use Rattle.std.proofs.Math.Nat.{pow-succ', pow-le-pow_right}
use Rattle.std.proofs.lemmas.Bool.{cases_Bool, cases_lt, eqb-true, leb-true, le-leb, lt-leb, lt-ltb, le-ltb, and_parts, and_right}
use Rattle.std.proofs.lemmas.List.{drop_more, drop_all, length-append, length-take, length-replicate}
use Rattle.std.proofs.lemmas.List.Splits.{length-slice_split}
use Rattle.std.proofs.lemmas.Nat.{mul-le}
use Rattle.text_lines.specs.Numbers.{number_after, number_in, number_at_most}
use Rattle.text_lines.proofs.Pieces.{pieces_whole, pieces_cut, first_or_none}
use Rattle.text_lines.proofs.NumberLemmas.{number_shifted, number_small}
use Rattle.scen_read.specs.Inside.{IsFirstPoint}
use Rattle.scen_read.specs.ScenText.{nanos_in, whole_in, decimals_in, length_of_parts, length_in}

abbrev is_point : ℕ → Bool
is_point byte = eqb byte 46

-- ---- where the point stands

pub no_point : (field : List ℕ) → IsFirstPoint None field → length_in field ≡ option_map (λ n. n * 10 ^ 9) (whole_in field)
unfolding length_in
no_point field none = ap length_of_parts (pieces_whole is_point field none)

no_digit_at : (digits : List ℕ) (k : ℕ) → k < length digits → is_point (get_or digits k 0) ≡ true → all_ascii_digits digits ≡ false
no_digit_at [] k lt e = absurd (omega arith)
no_digit_at (byte ∷ digits) zero lt e =
    let byte-is : byte ≡ 46 = eqb-true byte 46 e in
    rw byte-is refl
no_digit_at (byte ∷ digits) (suc k) lt e = and_right (is_ascii_digit byte) (all_ascii_digits digits) (no_digit_at digits k (omega arith) e)

no_decimals : (digits : List ℕ) → all_ascii_digits digits ≡ false → decimals_in digits ≡ None
no_decimals digits e = rw (e, and_right (ltb 0 (length digits)) false refl) refl

three_parts : (whole first : List ℕ) (others : List (List ℕ)) (parts : List (List ℕ)) → 0 < length parts → length_of_parts (whole ∷ first ∷ parts) ≡ None
three_parts whole first others [] some = absurd (omega arith)
three_parts whole first others (part ∷ parts) some = refl

nothing_after : (found : Option ℕ) → option_and_then (λ (n : ℕ). option_map (λ nano. n * 10 ^ 9 + nano) None) found ≡ None
nothing_after None = refl
nothing_after (Some n) = refl

pub at_point : (field : List ℕ) (i : ℕ) → IsFirstPoint (Some i) field
    → length_in field ≡ option_and_then (λ n. option_map (λ nano. n * 10 ^ 9 + nano) (decimals_in (drop (i + 1) field))) (whole_in (take i field))
unfolding length_in
at_point field i at =
    let rest = drop (i + 1) field in
    let cut = pieces_cut is_point field i at.0 at.1 at.2 in
    elim (first_or_none is_point rest) [
      | inl none ↦ ap length_of_parts (cut ∙ ap (λ (parts : List (List ℕ)). take i field ∷ parts) (pieces_whole is_point rest none))
      | inr found ↦
          let more = pieces_cut is_point rest found.0 found.1 found.2 found.3 in
          let some : 0 < length (slice_split is_point (drop (found.0 + 1) rest)) = omega (arith, length-slice_split is_point (drop (found.0 + 1) rest)) in
          let none : decimals_in rest ≡ None = no_decimals rest (no_digit_at rest found.0 found.1 found.2) in
          let left : length_of_parts (slice_split is_point field) ≡ None =
          ap length_of_parts (cut ∙ ap (λ (parts : List (List ℕ)). take i field ∷ parts) more)
          ∙ three_parts (take i field) (take found.0 rest) [] (slice_split is_point (drop (found.0 + 1) rest)) some in
          left ∙ sym (rw none (nothing_after (whole_in (take i field))))
    ]

-- the same, from what was made of the two parts
pub at_point_told : (field rest : List ℕ) (i : ℕ) (whole decimals : Option ℕ) → IsFirstPoint (Some i) field → whole ≡ whole_in (take i field)
    → rest ≡ drop (i + 1) field → decimals ≡ decimals_in rest → length_in field ≡ option_and_then (λ n. option_map (λ nano. n * 10 ^ 9 + nano) decimals) whole
at_point_told field rest i whole decimals at whole-is rest-is decimals-is = rw (decimals-is, whole-is, rest-is) (at_point field i at)

-- ---- the digits before the point

pub too_many_digits : (digits : List ℕ) → 7 < length digits → whole_in digits ≡ None
too_many_digits digits many = rw (lt-leb (length digits) 7 many) refl

number_of_seven : (digits : List ℕ) → length digits ≤ 7 → number_at_most 9999999 digits ≡ number_in digits
unfolding number_at_most number_in
number_of_seven digits few = elim (cases_Bool (ltb 0 (length digits) && all_ascii_digits digits)) [
  | inr none ↦ rw none refl
  | inl good ↦
      let all = (and_parts (ltb 0 (length digits)) (all_ascii_digits digits) good).1 in
      let below = number_small digits all in
      let most : 10 ^ length digits ≤ 10 ^ 7 = pow-le-pow_right (omega arith) few in
      let within : leb (number_after 0 digits) 9999999 ≡ true = le-leb (number_after 0 digits) 9999999 (omega (arith, below, most)) in
      rw (good, within) refl
]

pub few_digits : (digits : List ℕ) → length digits ≤ 7 → number_at_most 9999999 digits ≡ whole_in digits
few_digits digits few = rw (le-leb (length digits) 7 few) (number_of_seven digits few)

-- ---- the digits after the point

-- the units that digits write, where the first counts so much and each further one a tenth of the one before it
abbrev pub nanos_from : ℕ → List ℕ → ℕ
nanos_from unit [] = 0
nanos_from unit (digit ∷ digits) = (digit - 48) * unit + nanos_from (unit / 10) digits

-- what the digit counts that has so many places from it to the last, itself among them
abbrev unit_at : ℕ → ℕ
unit_at zero = 0
unit_at (suc k) = 10 ^ k

next_unit : (k : ℕ) → unit_at (suc k) / 10 ≡ unit_at k
next_unit zero = refl
next_unit (suc k) = let more : 10 ^ suc k ≡ 10 * 10 ^ k = pow-succ' 10 k in omega (arith, more)

no_unit : (digits : List ℕ) → nanos_from 0 digits ≡ 0
no_unit [] = refl
no_unit (digit ∷ digits) = let rest = no_unit digits in let none : 0 / 10 ≡ 0 = refl in rw none (omega (arith, rest))

zeros : (k m : ℕ) → number_after 0 (take k (replicate m 48)) ≡ 0
zeros zero m = refl
zeros (suc k) zero = refl
zeros (suc k) (suc m) = zeros k m

length-padded : (digits : List ℕ) (k m : ℕ) → k ≤ m → length (take k (digits ++ replicate m 48)) ≡ k
length-padded digits k m le =
    omega (arith, length-take k (digits ++ replicate m 48), length-append digits (replicate m 48), length-replicate {A = ℕ} m 48)

one_digit : (digit one unit whole here rest : ℕ) → one ≡ unit → whole ≡ (10 * 0 + digit) * one + rest → here ≡ rest → digit * unit + here ≡ whole
one_digit digit one unit whole here rest same whole-is here-is = rw (whole-is, same, here-is) (omega arith)

-- the first so many digits are read, and zeros where there are fewer
padded : (k m : ℕ) (digits : List ℕ) → k ≤ m → nanos_from (unit_at k) digits ≡ number_after 0 (take k (digits ++ replicate m 48))
padded zero m digits le = no_unit digits
padded (suc k) m [] le = sym (zeros (suc k) m)
padded (suc k) m (digit ∷ digits) le =
    let rest = padded k m digits (omega arith) in
    let next = ap (λ (u : ℕ). nanos_from u digits) (next_unit k) in
    let tail = take k (digits ++ replicate m 48) in
    let shifted = number_shifted (10 * 0 + (digit - 48)) tail in
    let unit = ap (λ (n : ℕ). 10 ^ n) (length-padded digits k m (omega arith)) in
    one_digit (digit - 48) (10 ^ length tail) (10 ^ k) _ _ _ unit shifted (next ∙ rest)

pub nanos_are : (digits : List ℕ) → nanos_from 100000000 digits ≡ nanos_in digits
nanos_are digits = padded 9 9 digits (omega arith)

-- what has been read of the digits: what is left adds up to what all write
pub record AreReadTo (digits : List ℕ) (i nanos unit : ℕ) : Type 0 where
  pub value : nanos + nanos_from unit (drop i digits) ≡ nanos_from 100000000 digits
  pub digits_are : all_ascii_digits (drop i digits) ≡ all_ascii_digits digits
  pub room : nanos + 10 * unit ≤ 10 ^ 9
  pub limit : nanos < 10 ^ 9

pub read_none : (digits : List ℕ) → AreReadTo digits 0 0 100000000
read_none digits = record { value = omega arith; digits_are = refl; room = omega arith; limit = omega arith }

room_left : (nanos digit unit : ℕ) → nanos + 10 * unit ≤ 10 ^ 9 → nanos < 10 ^ 9 → digit ≤ 9
    → (nanos + digit * unit + 10 * (unit / 10) ≤ 10 ^ 9) × (nanos + digit * unit < 10 ^ 9)
room_left nanos digit unit room limit le =
    let most = mul-le digit unit 9 unit le (omega arith) in
    let none : unit ≡ 0 → digit * unit ≡ 0 = λ e. rw e (omega arith) in
    elim (cases_lt 0 unit) [
      | inl some ↦ (omega (arith, most), omega (arith, most))
      | inr zero' ↦ let product = none (omega arith) in (omega (arith, product), omega (arith, product))
    ]

pub read_more : (digits : List ℕ) (i nanos unit byte : ℕ) → i < length digits → byte ≡ get_or digits i 0 → is_ascii_digit byte ≡ true
    → AreReadTo digits i nanos unit → AreReadTo digits (i + 1) (nanos + (byte - 48) * unit) (unit / 10)
read_more digits i nanos unit byte lt is digit so_far =
    let parts : drop i digits ≡ byte ∷ drop (i + 1) digits = rw is (drop_more digits i 0 lt) in
    let step : nanos_from unit (drop i digits) ≡ (byte - 48) * unit + nanos_from (unit / 10) (drop (i + 1) digits) = ap (nanos_from unit) parts in
    let all : all_ascii_digits (drop i digits) ≡ all_ascii_digits (drop (i + 1) digits) = ap all_ascii_digits parts ∙ rw digit refl in
    let high = leb-true byte 57 (and_parts (leb 48 byte) (leb byte 57) digit).1 in
    let bounds = room_left nanos (byte - 48) unit so_far.room so_far.limit (omega (arith, high)) in
    record {
      value = omega (arith, step, so_far.value);
      digits_are = sym all ∙ so_far.digits_are;
      room = bounds.0;
      limit = bounds.1;
    }

pub read_no_digit : (digits : List ℕ) (i nanos unit byte : ℕ) → i < length digits → byte ≡ get_or digits i 0 → is_ascii_digit byte ≡ false
    → AreReadTo digits i nanos unit → decimals_in digits ≡ None
read_no_digit digits i nanos unit byte lt is digit so_far =
    let parts : drop i digits ≡ byte ∷ drop (i + 1) digits = rw is (drop_more digits i 0 lt) in
    let all : all_ascii_digits (drop i digits) ≡ false = ap all_ascii_digits parts ∙ rw digit refl in
    no_decimals digits (sym so_far.digits_are ∙ all)

pub no_decimals_in_none : (digits : List ℕ) → eqb (length digits) 0 ≡ true → decimals_in digits ≡ None
no_decimals_in_none digits e =
    let none : ltb 0 (length digits) ≡ false = le-ltb 0 (length digits) (omega (arith, eqb-true (length digits) 0 e)) in rw none refl

pub read_all : (digits : List ℕ) (i nanos unit : ℕ) → 0 < length digits → length digits ≤ i → AreReadTo digits i nanos unit → decimals_in digits ≡ Some nanos
read_all digits i nanos unit some le so_far =
    let end : drop i digits ≡ [] = drop_all i digits le in
    let all : all_ascii_digits digits ≡ true = sym so_far.digits_are ∙ ap all_ascii_digits end in
    let value : nanos_in digits ≡ nanos =
    sym (nanos_are digits) ∙ (let rest = ap (nanos_from unit) end in let same : nanos_from 100000000 digits ≡ nanos = omega (arith, so_far.value, rest) in same) in
    rw (all, lt-ltb 0 (length digits) some, value) refl
