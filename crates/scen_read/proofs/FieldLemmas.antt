-- The fields of a line, one after another.
use Rattle.std.proofs.Common.{◌≡◌, ℕ, zero, suc, ◌+◌, ◌<◌, ◌≤◌, Bool, true, false, ltb, List, [], ◌∷◌, length, get_or, take, drop, Option, Some, None, refl, sym, ap, ◌∙◌, arith, inl, inr}
use Rattle.std.specs.Prelude.{map, filter, is_some}
use Rattle.std.specs.List.{slice_split, list_any, onto_first}
use Rattle.std.proofs.lemmas.Bool.{cases_Bool, lt-ltb}
use Rattle.std.proofs.lemmas.List.{drop_more, drop_all, length-map}
use Rattle.std.proofs.lemmas.List.Sums.{count_by-le-length, length-filter}
use Rattle.std.proofs.lemmas.List.Splits.{slice_split-cons_no, length-slice_split}
use Rattle.text_lines.specs.Words.{is_some_piece, runs_of, without_gaps}
use Rattle.text_lines.proofs.Pieces.{Pass, pieces_whole, pieces_cut, runs_gap, runs_skip}
use Rattle.scen_read.specs.Fields.{is_tab, is_space, after_first_some, tab_fields, space_fields, fields_in}
use Rattle.scen_read.specs.Inside.{IsFirstTab, IsFirstSpace, IsFirstOther}

-- ---- whether there is a tab

any_at : (p : ℕ → Bool) (text : List ℕ) (k : ℕ) → k < length text → p (get_or text k 0) ≡ true → list_any p text ≡ true
any_at p [] k lt e = absurd (omega arith)
any_at p (byte ∷ text) zero lt e = rw e refl
any_at p (byte ∷ text) (suc k) lt e = elim (cases_Bool (p byte)) [
  | inl here ↦ rw here refl
  | inr other ↦ rw other (any_at p text k (omega arith) e)
]

any_none : (p : ℕ → Bool) (text : List ℕ) → Pass p false text (length text) → list_any p text ≡ false
any_none p [] none = refl
any_none p (byte ∷ text) none = rw (none 0 (omega arith), any_none p text (λ k lt. none (suc k) (omega arith))) refl

pub tab_found : (text : List ℕ) (place : Option ℕ) → IsFirstTab place text → is_some place ≡ list_any is_tab text
tab_found text None none = sym (any_none is_tab text none)
tab_found text (Some i) at = sym (any_at is_tab text i at.0 at.1)

-- ---- fields between tabs

pub tab_cut : (text : List ℕ) (i : ℕ) → IsFirstTab (Some i) text → tab_fields text ≡ without_gaps (take i text) ∷ tab_fields (drop (i + 1) text)
tab_cut text i at = ap (map without_gaps) (pieces_cut is_tab text i at.0 at.1 at.2)

pub tab_last : (text : List ℕ) → IsFirstTab None text → tab_fields text ≡ without_gaps text ∷ []
tab_last text none = ap (map without_gaps) (pieces_whole is_tab text none)

-- ---- fields between runs of spaces

pub space_last : (text : List ℕ) → IsFirstSpace None text → space_fields text ≡ text ∷ []
space_last text none = ap after_first_some (pieces_whole is_space text none)

-- a text that begins with no space has a first field
some_first : (byte : ℕ) (pieces : List (List ℕ)) → after_first_some (onto_first byte pieces) ≡ filter is_some_piece (onto_first byte pieces)
some_first byte [] = refl
some_first byte (piece ∷ pieces) =
    let some : ltb 0 (length (byte ∷ piece)) ≡ true = lt-ltb 0 (length (byte ∷ piece)) (omega arith) in
    rw some refl

runs_from : (byte : ℕ) (text : List ℕ) → is_space byte ≡ false → space_fields (byte ∷ text) ≡ runs_of is_space (byte ∷ text)
runs_from byte text other =
    let split = slice_split-cons_no is_space byte text other in
    ap after_first_some split ∙ some_first byte (slice_split is_space text) ∙ sym (ap (filter is_some_piece) split)

space_cut : (text : List ℕ) (i : ℕ) → IsFirstSpace (Some i) text → space_fields text ≡ take i text ∷ runs_of is_space (drop i text)
space_cut text i at =
    let rest : drop i text ≡ get_or text i 0 ∷ drop (i + 1) text = drop_more text i 0 at.0 in
    let skipped : runs_of is_space (drop i text) ≡ runs_of is_space (drop (i + 1) text) =
    ap (runs_of is_space) rest ∙ runs_gap is_space (get_or text i 0) (drop (i + 1) text) at.1 in
    ap after_first_some (pieces_cut is_space text i at.0 at.1 at.2) ∙ ap (λ (fs : List (List ℕ)). take i text ∷ fs) (sym skipped)

-- the next field begins at the first byte after the spaces
pub space_next : (text rest : List ℕ) (i next : ℕ) → IsFirstSpace (Some i) text → rest ≡ drop i text → IsFirstOther (Some next) rest
    → space_fields text ≡ take i text ∷ space_fields (drop next rest)
space_next text rest i next at rest-is other =
    let begins : drop next rest ≡ get_or rest next 0 ∷ drop (next + 1) rest = drop_more rest next 0 other.0 in
    let skipped : runs_of is_space (drop next rest) ≡ runs_of is_space rest = runs_skip is_space rest next (omega (arith, other.0)) other.2 in
    let first : space_fields (drop next rest) ≡ runs_of is_space (drop next rest) =
    ap space_fields begins ∙ runs_from (get_or rest next 0) (drop (next + 1) rest) other.1 ∙ sym (ap (runs_of is_space) begins) in
    space_cut text i at ∙ ap (λ (fs : List (List ℕ)). take i text ∷ fs) (sym (first ∙ skipped ∙ ap (runs_of is_space) rest-is))

-- only spaces follow
pub space_end : (text rest : List ℕ) (i : ℕ) → IsFirstSpace (Some i) text → rest ≡ drop i text → IsFirstOther None rest → space_fields text ≡ take i text ∷ []
space_end text rest i at rest-is spaces =
    let all : runs_of is_space (drop (length rest) rest) ≡ runs_of is_space rest = runs_skip is_space rest (length rest) (omega arith) spaces in
    let none : runs_of is_space rest ≡ [] = sym all ∙ ap (runs_of is_space) (drop_all (length rest) rest (omega arith)) in
    space_cut text i at ∙ ap (λ (fs : List (List ℕ)). take i text ∷ fs) (sym (ap (runs_of is_space) rest-is) ∙ none)

-- ---- how many fields there are

length-filter_some : (pieces : List (List ℕ)) → length (filter is_some_piece pieces) ≤ length pieces
length-filter_some pieces = omega (arith, length-filter is_some_piece pieces, count_by-le-length is_some_piece pieces)

few_after_first : (pieces : List (List ℕ)) → length (after_first_some pieces) ≤ length pieces
few_after_first [] = omega arith
few_after_first (first ∷ others) = omega (arith, length-filter_some others)

pub few_fields : (text : List ℕ) → length (fields_in text) ≤ length text + 1
unfolding fields_in
few_fields text =
    let tabs = length-slice_split is_tab text in
    let spaces = length-slice_split is_space text in
    elim (cases_Bool (list_any is_tab text)) [
      | inl some ↦ rw some (omega (arith, tabs, length-map (slice_split is_tab text) without_gaps, count_by-le-length is_tab text))
      | inr none ↦ rw none (omega (arith, spaces, few_after_first (slice_split is_space text), count_by-le-length is_space text))
    ]
