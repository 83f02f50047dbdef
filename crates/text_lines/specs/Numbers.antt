-- The number that a word is.
use Rattle.std.specs.Prelude.{ℕ, ◌+◌, ◌-◌, ◌*◌, min, ◌&&◌, nat_lt, nat_le, if◌then◌else◌, List, [], ◌∷◌, length, Option, Some, None, option_and_then}
use Rattle.std.specs.Str.{all_ascii_digits}

-- the number that digits write, after the number of the digits before them
abbrev pub number_after : ℕ → List ℕ → ℕ
number_after n [] = n
number_after n (digit ∷ digits) = number_after (10 * n + (digit - 48)) digits

-- the number that a word is: one digit or more, leading zeros allowed, of any size; `007` is 7, and `+7` is none
unfoldable pub number_in : List ℕ → Option ℕ
number_in word =
    if nat_lt 0 (length word) && all_ascii_digits word then Some (number_after 0 word) else None

-- all numbers above the greatest that is wanted are alike
abbrev pub capped : ℕ → ℕ → ℕ
capped most n = min n (most + 1)

-- the number that a word is, where it is at most so much
unfoldable pub number_at_most : ℕ → List ℕ → Option ℕ
number_at_most most word = option_and_then (λ n. if nat_le n most then Some n else None) (number_in word)
