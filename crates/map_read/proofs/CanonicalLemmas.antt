-- Reading the canonical text of a map gives that map.
use Rattle.std.proofs.Common.{◌≡◌, ℕ, zero, suc, ◌+◌, ◌*◌, ◌^◌, ◌<◌, false, true, ltb, List, [], ◌∷◌, ◌++◌, length, take, drop, All, Some, refl, sym, ap, subst, ◌∙◌, arith, inl}
use Rattle.std.specs.Prelude.{map, codes, IsTrue}
use Rattle.std.specs.List.{AllByRecursion, slice_split}
use Rattle.std.specs.Fmt.{decimal}
use Rattle.std.proofs.lemmas.Bool.{lt-ltb}
use Rattle.std.proofs.lemmas.List.{length-take, length-drop, drop_all, drop-drop, nil_from_length}
use Rattle.std.proofs.lemmas.List.Splits.{slice_split_none}
use Rattle.std.proofs.lemmas.Fmt.{decimal_nonempty}
use Rattle.moves.specs.declared.Terrain.{Terrain}
use Rattle.moves.specs.declared.Terrain.TheVariants.{Blocked, Land, Water}
use Rattle.moves.specs.Maps.{Map, IsWithinLimits, IsSearchable}
use Rattle.text_lines.specs.Lines.{lines_of}
use Rattle.text_lines.specs.Words.{is_gap, is_blank, words_of, has_words, without_gaps_at_end}
use Rattle.text_lines.proofs.LineLemmas.{AreKept, IsPrinted, lines_with_feeds, printed_is_kept, printed_append, printed_digits}
use Rattle.text_lines.proofs.NumberLemmas.{digits_of_decimal, number_in_decimal, no_gap_in_digits}
use Rattle.text_lines.proofs.WordTests.{words_from_test}
use Rattle.map_read.specs.Accepted.{StandFor, AreRows, IsHeader, IsMapText}
use Rattle.map_read.specs.MapText.{number_named, terrain_for, glyph, row_texts, line_texts, text_of, CanonicalTextReadsBack}
use Rattle.map_read.proofs.AcceptedLemmas.{accepts_map_texts}

-- ---- lines

printed_cells : (cells : List Terrain) → IsPrinted (map glyph cells)
printed_cells [] = refl
printed_cells (Blocked ∷ cells) = printed_cells cells
printed_cells (Land ∷ cells) = printed_cells cells
printed_cells (Water ∷ cells) = printed_cells cells

kept_rows : (width rows : ℕ) (cells : List Terrain) → AreKept (row_texts width rows cells)
unfolding row_texts AreKept
kept_rows width zero cells = tt
kept_rows width (suc rows) cells =
    (printed_is_kept (map glyph (take width cells)) (printed_cells (take width cells)), kept_rows width rows (drop width cells))

-- ---- numbers

one_word : (word : List ℕ) → 0 < length word → All (λ byte. is_gap byte ≡ false) word → (slice_split is_gap word ≡ word ∷ []) × (ltb 0 (length word) ≡ true)
one_word word some none = (slice_split_none is_gap word none, lt-ltb 0 (length word) some)

named_in : (n : ℕ) → n < 2 ^ 64 → (number_named (codes "height") (codes "height " ++ decimal n) ≡ Some n) × (number_named (codes "width") (codes "width " ++ decimal n) ≡ Some n)
unfolding number_named words_of
named_in n small =
    let word = one_word (decimal n) (decimal_nonempty n small) (no_gap_in_digits (decimal n) (digits_of_decimal n small)) in
    (rw (word.0, word.1, number_in_decimal n small) refl, rw (word.0, word.1, number_in_decimal n small) refl)

-- ---- cells

stands_back : (cell : Terrain) → terrain_for (glyph cell) ≡ Some cell
unfolding terrain_for
stands_back Blocked = refl
stands_back Land = refl
stands_back Water = refl

canonical_stands : (cells : List Terrain) → StandFor (map glyph cells) cells
unfolding StandFor
canonical_stands [] = tt
canonical_stands (cell ∷ cells) = (stands_back cell, canonical_stands cells)

no_gaps_to_drop : (cells : List Terrain) → without_gaps_at_end (map glyph cells) ≡ map glyph cells
unfolding without_gaps_at_end
no_gaps_to_drop [] = refl
no_gaps_to_drop (Blocked ∷ cells) = ap (λ (line : List ℕ). 64 ∷ line) (no_gaps_to_drop cells)
no_gaps_to_drop (Land ∷ cells) = ap (λ (line : List ℕ). 46 ∷ line) (no_gaps_to_drop cells)
no_gaps_to_drop (Water ∷ cells) = ap (λ (line : List ℕ). 87 ∷ line) (no_gaps_to_drop cells)

canonical_rows : (width rows : ℕ) (cells : List Terrain) → length cells ≡ width * rows → AreRows width rows cells (row_texts width rows cells)
unfolding AreRows row_texts
canonical_rows width zero cells len = nil_from_length cells (omega (arith, len))
canonical_rows width (suc rows) cells len =
    let row = take width cells in
    let wide : length row ≡ width = omega (arith, length-take width cells, len) in
    let bytes : StandFor (without_gaps_at_end (map glyph row)) row = rw (no_gaps_to_drop row) (canonical_stands row) in
    let rest : length (drop width cells) ≡ width * rows = omega (arith, length-drop width cells, len) in
    (record { wide = wide; bytes = bytes }, canonical_rows width rows (drop width cells) rest)

length_row_texts : (width rows : ℕ) (cells : List Terrain) → length (row_texts width rows cells) ≡ rows
unfolding row_texts
length_row_texts width zero cells = refl
length_row_texts width (suc rows) cells = ap suc (length_row_texts width rows (drop width cells))

-- ---- the whole text

canonical_lines : (m : Map) → IsWithinLimits m.width m.height → lines_of (text_of m) ≡ line_texts m
unfolding text_of AreKept
canonical_lines m within =
    let h = printed_digits (decimal m.height) (digits_of_decimal m.height (omega (arith, within.rows))) in
    let w = printed_digits (decimal m.width) (digits_of_decimal m.width (omega (arith, within.columns))) in
    lines_with_feeds (line_texts m) (
      printed_is_kept (codes "type octile") refl,
      (
        printed_is_kept (codes "height " ++ decimal m.height) (printed_append (codes "height ") (decimal m.height) refl h),
        (
          printed_is_kept (codes "width " ++ decimal m.width) (printed_append (codes "width ") (decimal m.width) refl w),
          (printed_is_kept (codes "map") refl, kept_rows m.width m.height m.terrain),
        ),
      ),
    )

type_line_is : has_words (codes "type" ∷ codes "octile" ∷ []) (codes "type octile") ≡ true
unfolding has_words words_of
type_line_is = refl

map_line_is : has_words (codes "map" ∷ []) (codes "map") ≡ true
unfolding has_words words_of
map_line_is = refl

canonical_header : (m : Map) → IsWithinLimits m.width m.height → IsHeader (line_texts m) m.width m.height
canonical_header m within =
    let h = (named_in m.height (omega (arith, within.rows))).0 in
    let w = (named_in m.width (omega (arith, within.columns))).1 in
    record {
      given = record { kind = words_from_test _ _ type_line_is; sides = inl (h, w); limits = within };
      mark = words_from_test _ _ map_line_is;
    }

canonical_text : (m : Map) → IsWithinLimits m.width m.height → length m.terrain ≡ m.width * m.height → IsSearchable m → IsMapText (text_of m) m
canonical_text m within whole few =
    let lines = sym (canonical_lines m within) in
    let rows = row_texts m.width m.height m.terrain in
    let none : drop (4 + m.height) (line_texts m) ≡ [] =
    sym (drop-drop m.height 4 (line_texts m)) ∙ drop_all m.height rows (omega (arith, length_row_texts m.width m.height m.terrain)) in
    record {
      header = subst (λ (ls : List (List ℕ)). IsHeader ls m.width m.height) lines (canonical_header m within);
      rows = subst (λ (ls : List (List ℕ)). AreRows m.width m.height m.terrain (drop 4 ls)) lines (canonical_rows m.width m.height m.terrain whole);
      few = few;
      after = subst (λ (ls : List (List ℕ)). AllByRecursion (λ line. IsTrue (is_blank line)) (drop (4 + m.height) ls)) lines (rw none tt);
    }

pub canonical_reads_back : CanonicalTextReadsBack
canonical_reads_back m within whole few = (accepts_map_texts (text_of m) m).1 (canonical_text m within whole few)
