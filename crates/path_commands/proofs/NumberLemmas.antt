-- What the tests of a number's text say, and what std's `parse` makes of such a text.
use Rattle.std.proofs.Common.{◌≡◌, ◌<◌, ◌≤◌, ℕ, List, length, true, Result, Ok, rules, arith}
use Rattle.std.proofs.lemmas.Bool.Decides.{nat_tests}
use Rattle.std.proofs.lemmas.Str.Parse.{IsNumeralModel, digits_value_short, numerals_by_value, parse_gives}
use Rattle.std.specs.Char.{is_ascii_digit}
use Rattle.std.specs.List.{list_all}
use Rattle.std.specs.Str.Parse.{ParsesUnsigned, digits_value}
use Rattle.path_commands.specs.Words.{is_number}

pub record HasNumber (text : List ℕ) : Type 0 where
  pub some : 0 < length text
  pub few : length text ≤ 10
  pub digits : list_all is_ascii_digit text ≡ true

pub has_number : (text : List ℕ) → is_number text ≡ true → HasNumber text
has_number text e = record {
  some = grind (arith, nat_tests);
  few = grind (arith, nat_tests);
  digits = grind (arith, nat_tests);
}

own : IsNumeralModel (λ ds. list_all is_ascii_digit ds ≡ true) (digits_value 10)
own = numerals_by_value _ (search rules)

pub parsed : {E : Type 0} (text : List ℕ) (r : Result ℕ E) → ParsesUnsigned 64 10 text r → HasNumber text → r ≡ Ok (digits_value 10 text)
parsed text r h p = parse_gives own 64 text r h p.digits p.some (omega (arith, digits_value_short own text 10 p.digits p.few))
