-- The words of a line, and a line without the gaps round what it says.
use Rattle.std.proofs.Common.{◌≡◌, ℕ, zero, suc, ◌+◌, ◌-◌, ◌<◌, ◌≤◌, Bool, true, false, ltb, List, [], ◌∷◌, length, get_or, take, drop, Option, Some, None, unwrap_or, refl, sym, ap, subst, ◌∙◌, arith, add-zero}
use Rattle.std.proofs.lemmas.Bool.{lt-ltb, both_ways}
use Rattle.std.proofs.lemmas.List.{drop_more, length-take-le, take_all, drop_all, take_rest, length-drop, get_or-drop}
use Rattle.std.proofs.lemmas.List.Folds.{list_all_at}
use Rattle.text_lines.specs.Places.{IsFirstPlace}
use Rattle.text_lines.proofs.Pieces.{Pass, pieces_whole, pieces_cut, runs_gap, runs_skip}
use Rattle.text_lines.specs.Words.{is_gap, is_blank, words_of, without_gaps, without_gaps_at_end, without_gaps_at_start}

-- each byte of the line, up to the place, is a gap, or none is
abbrev AreGaps : Bool → List ℕ → ℕ → Type 0
AreGaps are line n = Pass is_gap are line n

pub no_words : words_of [] ≡ []
unfolding words_of
no_words = refl

-- a gap at the front changes no word
pub words_gap : (byte : ℕ) (line : List ℕ) → is_gap byte ≡ true → words_of (byte ∷ line) ≡ words_of line
unfolding words_of
words_gap byte line gap = runs_gap is_gap byte line gap

pub words_skip : (line : List ℕ) (n : ℕ) → n ≤ length line → AreGaps true line n → words_of (drop n line) ≡ words_of line
unfolding words_of
words_skip line n le gaps = runs_skip is_gap line n le gaps

-- a word that goes on to the end
words_whole : (line : List ℕ) → 0 < length line → AreGaps false line (length line) → words_of line ≡ line ∷ []
unfolding words_of
words_whole line some none =
    let long : ltb 0 (length line) ≡ true = lt-ltb 0 (length line) some in
    rw (pieces_whole is_gap line none, long) refl

-- a word that ends at a gap
words_cut : (line : List ℕ) (i : ℕ) → 0 < i → i < length line → is_gap (get_or line i 0) ≡ true → AreGaps false line i → words_of line ≡ take i line ∷ words_of (drop i line)
unfolding words_of
words_cut line i some lt gap none =
    let long : ltb 0 (length (take i line)) ≡ true = lt-ltb 0 (length (take i line)) (omega (arith, length-take-le i line)) in
    let rest : drop i line ≡ get_or line i 0 ∷ drop (i + 1) line = drop_more line i 0 lt in
    let onwards : words_of (drop i line) ≡ words_of (drop (i + 1) line) = ap words_of rest ∙ words_gap (get_or line i 0) (drop (i + 1) line) gap in
    rw (onwards, pieces_cut is_gap line i lt gap none, long) refl

-- the first word of a line that begins with one
pub words_first : (line : List ℕ) (place : Option ℕ) → 0 < length line → is_gap (get_or line 0 0) ≡ false
    → IsFirstPlace place (λ byte. is_gap byte ≡ true) (λ byte. is_gap byte ≡ false) line
    → words_of line ≡ take (unwrap_or place (length line)) line ∷ words_of (drop (unwrap_or place (length line)) line)
words_first line None some first none = rw (take_all (length line) line (omega arith), drop_all (length line) line (omega arith), no_words) (words_whole line some none)
words_first line (Some zero) some first at = absurd (both_ways (is_gap (get_or line 0 0)) first at.1)
words_first line (Some (suc i)) some first at = words_cut line (suc i) (omega arith) at.0 at.1 at.2

pub no_words_of_gaps : (line : List ℕ) → AreGaps true line (length line) → words_of line ≡ []
no_words_of_gaps line gaps = sym (words_skip line (length line) (omega arith) gaps) ∙ rw (drop_all (length line) line (omega arith)) no_words

pub blank_of_gaps : (line : List ℕ) → AreGaps true line (length line) → is_blank line ≡ true
blank_of_gaps [] gaps = refl
blank_of_gaps (byte ∷ line) gaps = rw (gaps 0 (omega arith)) (blank_of_gaps line (λ k lt. gaps (suc k) (omega arith)))

-- nothing is left of a blank line
pub nothing_left : (line : List ℕ) → AreGaps true line (length line) → without_gaps_at_end line ≡ []
unfolding without_gaps_at_end
nothing_left [] gaps = refl
nothing_left (byte ∷ line) gaps = rw (blank_of_gaps (byte ∷ line) gaps) refl

-- what is left ends at the last byte that is no gap
pub left_to_last : (line : List ℕ) (i : ℕ) → i < length line → is_gap (get_or line i 0) ≡ false
    → ((k : ℕ) → i < k → k < length line → is_gap (get_or line k 0) ≡ true)
    → without_gaps_at_end line ≡ take (suc i) line
unfolding without_gaps_at_end
left_to_last [] i lt here after = absurd (omega arith)
left_to_last (byte ∷ line) zero lt here after =
    let rest = nothing_left line (λ k below. after (suc k) (omega arith) (omega arith)) in
    rw (list_all_at is_gap (byte ∷ line) 0 0 lt here, rest) refl
left_to_last (byte ∷ line) (suc i) lt here after =
    let rest = left_to_last line i (omega arith) here (λ k above below. after (suc k) (omega arith) (omega arith)) in
    rw (list_all_at is_gap (byte ∷ line) (suc i) 0 lt here, rest) refl

-- the first word begins at the first byte that is no gap, and ends before the next gap
pub words_from : (line rest : List ℕ) (start end : ℕ) (place : Option ℕ) → take (length line - start) (drop start line) ≡ rest
    → start < length line → is_gap (get_or line start 0) ≡ false → AreGaps true line start
    → IsFirstPlace place (λ byte. is_gap byte ≡ true) (λ byte. is_gap byte ≡ false) rest → end ≡ unwrap_or place (length rest)
    → words_of line ≡ take end rest ∷ words_of (take (length rest - end) (drop end rest))
words_from line rest start end place is lt first gaps at end-is =
    let same : rest ≡ drop start line = sym is ∙ take_rest line start in
    let some : 0 < length rest = omega (arith, length-drop start line, ap length same) in
    let here : get_or rest 0 0 ≡ get_or line start 0 = ap (λ (r : List ℕ). get_or r 0 0) same ∙ get_or-drop start line 0 0 ∙ ap (λ (k : ℕ). get_or line k 0) (add-zero start) in
    let skipped : words_of line ≡ words_of rest = sym (ap words_of same ∙ words_skip line start (omega arith) gaps) in
    skipped ∙ rw (take_rest rest end, end-is) (words_first rest place some (rw here first) at)

-- ---- the gaps at the start

pub start_skipped : (line : List ℕ) (n : ℕ) → AreGaps true line n → n < length line → is_gap (get_or line n 0) ≡ false → without_gaps_at_start line ≡ drop n line
unfolding without_gaps_at_start
start_skipped [] n gaps lt here = absurd (omega arith)
start_skipped (byte ∷ line) zero gaps lt here = rw here refl
start_skipped (byte ∷ line) (suc n) gaps lt here =
    rw (gaps 0 (omega arith)) (start_skipped line n (λ k below. gaps (suc k) (omega arith)) (omega arith) here)

pub start_of_gaps : (line : List ℕ) → AreGaps true line (length line) → without_gaps_at_start line ≡ []
unfolding without_gaps_at_start
start_of_gaps [] gaps = refl
start_of_gaps (byte ∷ line) gaps = rw (gaps 0 (omega arith)) (start_of_gaps line (λ k below. gaps (suc k) (omega arith)))

pub nothing_of_nothing : without_gaps_at_end [] ≡ []
unfolding without_gaps_at_end
nothing_of_nothing = refl

-- ---- nothing is dropped

pub end_kept : (line : List ℕ) → (0 < length line → is_gap (get_or line (length line - 1) 0) ≡ false) → without_gaps_at_end line ≡ line
end_kept [] last = nothing_of_nothing
end_kept (byte ∷ line) last =
    let place : length (byte ∷ line) - 1 ≡ length line = omega arith in
    let here = subst (λ (k : ℕ). is_gap (get_or (byte ∷ line) k 0) ≡ false) place (last (omega arith)) in
    left_to_last (byte ∷ line) (length line) (omega arith) here (λ k above below. absurd (omega arith)) ∙ take_all (suc (length line)) (byte ∷ line) (omega arith)

pub start_kept : (line : List ℕ) → (0 < length line → is_gap (get_or line 0 0) ≡ false) → without_gaps_at_start line ≡ line
unfolding without_gaps_at_start
start_kept [] first = refl
start_kept (byte ∷ line) first = rw (first (omega arith)) refl

pub gaps_kept : (line : List ℕ) → (0 < length line → is_gap (get_or line 0 0) ≡ false) → (0 < length line → is_gap (get_or line (length line - 1) 0) ≡ false)
    → without_gaps line ≡ line
gaps_kept line first last = ap without_gaps_at_end (start_kept line first) ∙ end_kept line last
