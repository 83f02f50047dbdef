-- The first and the last place of a byte in a line.
use Rattle.std.specs.Prelude.{◌≡◌, ℕ, ◌<◌, true, false, List, length, slice_index, Option, MatchOption}
use Rattle.text_lines.specs.Words.{is_gap}

-- the first place of a list whose byte is such, where each before it is otherwise; and none where all are otherwise
abbrev pub IsFirstPlace : Option ℕ → (ℕ → Type 0) → (ℕ → Type 0) → List ℕ → Type 0
IsFirstPlace place IsSuch IsOther line =
    MatchOption place ((k : ℕ) → k < length line → IsOther (slice_index line k))
    (λ i. (i < length line) × IsSuch (slice_index line i) × ((k : ℕ) → k < i → IsOther (slice_index line k)))

-- the last place of a list whose byte is such, where each after it is otherwise; and none where all are otherwise
abbrev pub IsLastPlace : Option ℕ → (ℕ → Type 0) → (ℕ → Type 0) → List ℕ → Type 0
IsLastPlace place IsSuch IsOther line =
    MatchOption place ((k : ℕ) → k < length line → IsOther (slice_index line k))
    (λ i.
    (i < length line) × IsSuch (slice_index line i)
    × ((k : ℕ) → i < k → k < length line → IsOther (slice_index line k)))

-- where the first byte stands that is no space and no tab, the last such byte, and the first space or tab
abbrev pub IsFirstOther : Option ℕ → List ℕ → Type 0
IsFirstOther place line = IsFirstPlace place (λ byte. is_gap byte ≡ false) (λ byte. is_gap byte ≡ true) line

abbrev pub IsLastOther : Option ℕ → List ℕ → Type 0
IsLastOther place line = IsLastPlace place (λ byte. is_gap byte ≡ false) (λ byte. is_gap byte ≡ true) line

abbrev pub IsFirstGap : Option ℕ → List ℕ → Type 0
IsFirstGap place line = IsFirstPlace place (λ byte. is_gap byte ≡ true) (λ byte. is_gap byte ≡ false) line
