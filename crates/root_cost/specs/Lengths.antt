-- The text of a length, such as 2.414213 for one straight and one diagonal step.
use Rattle.std.specs.Prelude.{ℕ, ◌/◌, ◌%◌, List, ◌++◌, codes}
use Rattle.std.specs.Fmt.{decimal}

-- the last three digits of a number
abbrev pub three_digits : ℕ → List ℕ
three_digits n = decimal (n / 100 % 10) ++ decimal (n / 10 % 10) ++ decimal (n % 10)

-- a length in millionths: its whole part, a point and six digits
abbrev pub length_text : ℕ → List ℕ
length_text micro = decimal (micro / 1000000) ++ codes "." ++ three_digits (micro / 1000) ++ three_digits micro
