-- Where a text is cut into its lines.
use Rattle.std.proofs.Common.{◌≡◌, ℕ, zero, suc, ◌+◌, ◌-◌, ◌<◌, ◌≤◌, Bool, true, false, eqb, leb, List, [], ◌∷◌, ◌++◌, length, get_or, take, drop, All, refl, sym, ap, ◌∙◌, append_assoc, arith, inl, inr}
use Rattle.std.specs.Char.{is_ascii_digit}
use Rattle.std.specs.List.{slice_split, list_all}
use Rattle.std.specs.Str.{all_ascii_digits}
use Rattle.std.proofs.lemmas.Bool.{eqb-true, false_from_ne_true, cases_Bool, leb-true, le-leb, and_parts, and_from, ne_eqb}
use Rattle.std.proofs.lemmas.List.{take-append-drop, drop_more, length-take-le, get_or-take, get_or_default}
use Rattle.std.proofs.lemmas.List.Folds.{list_all-append}
use Rattle.std.proofs.lemmas.List.Splits.{slice_split_at, slice_split_none, length-slice_split}
use Rattle.std.proofs.lemmas.List.Sums.{count_by-le-length}
use Rattle.memchr.specs.Find.{Nowhere, NoneBefore, Passes, is_byte}
use Rattle.text_lines.specs.Lines.{pieces, without_return, last_line, lines_in, lines_of, text_with_lines}

-- no line feed is in the line
abbrev pub IsOneLine : List ℕ → Type 0
IsOneLine line = All (λ byte. eqb byte 10 ≡ false) line

split_some : (p : ℕ → Bool) (xs : List ℕ) → (first : List ℕ) × (others : List (List ℕ)) × (slice_split p xs ≡ first ∷ others)
split_some p [] = ([], [], refl)
split_some p (x ∷ xs) = elim (cases_Bool (p x)) [
  | inl yes' ↦ ([], slice_split p xs, rw yes' refl)
  | inr no' ↦ let q = split_some p xs in (x ∷ q.0, q.1, rw (no', q.2) refl)
]

lines_in_more : (line : List ℕ) (others : List (List ℕ)) (first : List ℕ) (rest : List (List ℕ)) → others ≡ first ∷ rest → lines_in (line ∷ others) ≡ without_return line ∷ lines_in others
unfolding lines_in
lines_in_more line others first rest e = rw e refl

-- the first line ends at the first line feed
pub lines_first : (line rest : List ℕ) → IsOneLine line → lines_of (line ++ 10 ∷ rest) ≡ without_return line ∷ lines_of rest
unfolding lines_of
lines_first line rest one =
    let cut : pieces (line ++ 10 ∷ rest) ≡ line ∷ pieces rest = slice_split_at (λ byte. eqb byte 10) line 10 rest one refl in
    let more = split_some (λ byte. eqb byte 10) rest in
    rw cut (lines_in_more line (pieces rest) more.0 more.1 more.2)

-- with no line feed the text is its last line
pub lines_last : (text : List ℕ) → IsOneLine text → lines_of text ≡ last_line (without_return text)
unfolding lines_of lines_in
lines_last text one =
    let whole : pieces text ≡ text ∷ [] = slice_split_none (λ byte. eqb byte 10) text one in
    rw whole refl

pub one_line_before : (text : List ℕ) (k : ℕ) → k ≤ length text → Nowhere (Passes (is_byte 10) text) 0 k → IsOneLine (take k text)
one_line_before text k le none = λ i d lt.
    let below : i < k = omega (arith, length-take-le k text le) in
    let same : get_or (take k text) i d ≡ get_or text i 0 = get_or-take k text i d below ∙ get_or_default text i d 0 (omega arith) in
    rw same (false_from_ne_true _ (none i (omega arith) below))

-- the line ends where the first line feed was found
pub lines_cut : (text : List ℕ) (k : ℕ) → NoneBefore (Passes (is_byte 10) text) 0 (length text) k → Passes (is_byte 10) text k
    → lines_of text ≡ without_return (take k text) ∷ lines_of (drop (k + 1) text)
lines_cut text k before here =
    let lt : k < length text = before.high in
    let feed : get_or text k 0 ≡ 10 = eqb-true _ _ here in
    let parts : text ≡ take k text ++ 10 ∷ drop (k + 1) text =
    sym (take-append-drop k text) ∙ ap (λ (rest : List ℕ). take k text ++ rest) (drop_more text k 0 lt ∙ ap (λ (byte : ℕ). byte ∷ drop (k + 1) text) feed) in
    ap lines_of parts ∙ lines_first (take k text) (drop (k + 1) text) (one_line_before text k (omega arith) before.before)

-- no line feed was found
pub one_line_whole : (text : List ℕ) → Nowhere (Passes (is_byte 10) text) 0 (length text) → IsOneLine text
one_line_whole text none = λ i d lt. rw (get_or_default text i d 0 lt) (false_from_ne_true _ (none i (omega arith) lt))

-- where nothing is left of the last piece it is no line, and else it is one
pub no_last_line : (line : List ℕ) → eqb (length line) 0 ≡ true → last_line line ≡ []
no_last_line [] e = refl
no_last_line (byte ∷ line) e = absurd (omega (arith, eqb-true _ _ e))

pub one_last_line : (line : List ℕ) → eqb (length line) 0 ≡ false → last_line line ≡ line ∷ []
one_last_line [] e = absurd cc
one_last_line (byte ∷ line) e = refl

pub no_lines : lines_of [] ≡ []
unfolding lines_of lines_in without_return
no_lines = refl

-- ---- a text made of lines

-- the line has no line feed, and no carriage return at its end
pub record IsKept (line : List ℕ) : Type 0 where
  pub one : IsOneLine line
  pub whole : without_return line ≡ line

-- each of the lines is one that is kept
unfoldable pub AreKept : List (List ℕ) → Type 0
AreKept [] = Unit {0}
AreKept (line ∷ lines) = IsKept line × AreKept lines

pub lines_with_feeds : (lines : List (List ℕ)) → AreKept lines → lines_of (text_with_lines lines) ≡ lines
unfolding AreKept
lines_with_feeds [] kept = no_lines
lines_with_feeds (line ∷ lines) kept =
    let rest = text_with_lines lines in
    let parts : (line ++ 10 ∷ []) ++ rest ≡ line ++ 10 ∷ rest = append_assoc line (10 ∷ []) rest in
    ap lines_of parts ∙ lines_first line rest kept.0.one ∙ rw (kept.0.whole, lines_with_feeds lines kept.1) refl

-- each byte is a space or above it
abbrev pub IsPrinted : List ℕ → Type 0
IsPrinted line = list_all (leb 32) line ≡ true

printed_at : (line : List ℕ) (k : ℕ) → k < length line → IsPrinted line → 32 ≤ get_or line k 0
printed_at [] k lt p = absurd (omega arith)
printed_at (byte ∷ line) zero lt p = leb-true 32 byte (and_parts (leb 32 byte) (list_all (leb 32) line) p).0
printed_at (byte ∷ line) (suc k) lt p = printed_at line k (omega arith) (and_parts (leb 32 byte) (list_all (leb 32) line) p).1

-- a line whose last byte is no carriage return
pub no_return_kept : (line : List ℕ) → (0 < length line → 32 ≤ get_or line (length line - 1) 0) → without_return line ≡ line
unfolding without_return
no_return_kept [] above = refl
no_return_kept (byte ∷ line) above =
    let at = above (omega arith) in
    let other : eqb (get_or (byte ∷ line) (length (byte ∷ line) - 1) 0) 13 ≡ false = ne_eqb _ _ (λ e. omega (arith, at, e)) in
    rw other refl

pub printed_is_kept : (line : List ℕ) → IsPrinted line → IsKept line
printed_is_kept line p = record {
  one = λ k d lt. let at = printed_at line k lt p in rw (get_or_default line k d 0 lt) (ne_eqb _ _ (λ e. omega (arith, at, e)));
  whole = no_return_kept line (λ some. printed_at line (length line - 1) (omega arith) p);
}

pub printed_append : (front back : List ℕ) → IsPrinted front → IsPrinted back → IsPrinted (front ++ back)
printed_append front back p q = list_all-append (leb 32) front back ∙ and_from (list_all (leb 32) front) (list_all (leb 32) back) p q

pub printed_digits : (digits : List ℕ) → all_ascii_digits digits ≡ true → IsPrinted digits
printed_digits [] p = refl
printed_digits (digit ∷ digits) p =
    let parts = and_parts (is_ascii_digit digit) (all_ascii_digits digits) p in
    let low = and_parts (leb 48 digit) (leb digit 57) parts.0 in
    and_from (leb 32 digit) (list_all (leb 32) digits) (le-leb 32 digit (omega (arith, leb-true 48 digit low.0))) (printed_digits digits parts.1)

-- ---- there are not many lines

few_lines_in : (pieces : List (List ℕ)) → length (lines_in pieces) ≤ length pieces
unfolding lines_in
few_lines_in [] = omega arith
few_lines_in (piece ∷ []) = at_most_one (without_return piece) where
  at_most_one : (line : List ℕ) → length (last_line line) ≤ 1
  at_most_one [] = omega arith
  at_most_one (byte ∷ line) = omega arith
few_lines_in (piece ∷ next ∷ others) = let fewer = few_lines_in (next ∷ others) in omega (arith, fewer)

pub few_lines : (text : List ℕ) → length (lines_of text) ≤ length text + 1
unfolding lines_of
few_lines text =
    omega (arith, few_lines_in (pieces text), length-slice_split (λ (byte : ℕ). eqb byte 10) text, count_by-le-length (λ (byte : ℕ). eqb byte 10) text)
