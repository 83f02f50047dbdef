-- The canonical text, cell by cell and row by row.
use Rattle.std.proofs.Common.{◌≡◌, ℕ, zero, suc, ◌+◌, ◌-◌, ◌*◌, ◌<◌, ◌≤◌, List, [], ◌∷◌, ◌++◌, length, get_or, take, drop, refl, sym, ap, ◌∙◌, append_assoc, arith}
use Rattle.std.specs.Prelude.{map, codes}
use Rattle.std.specs.Fmt.{decimal}
use Rattle.std.specs.List.{flat_map}
use Rattle.std.proofs.lemmas.List.{append-nil, length-append, length-map, length-take, map_more, drop-drop, length-drop, get_or-drop}
use Rattle.std.proofs.lemmas.Grind.{flat_map-append}
use Rattle.std.proofs.lemmas.Nat.{mul-add-lt}
use Rattle.moves.specs.declared.Cell.{Cell}
use Rattle.std.proofs.lemmas.Fmt.{length-decimal-le}
use Rattle.moves.specs.declared.Terrain.{Terrain}
use Rattle.moves.specs.declared.Terrain.TheVariants.{Blocked}
use Rattle.moves.specs.Maps.{Map, IsWithinLimits, terrain_of}
use Rattle.text_lines.specs.Lines.{with_feed}
use Rattle.map_read.specs.Inside.{header_text, row_text}
use Rattle.map_read.specs.MapText.{glyph, row_texts, header_texts, text_of}

-- one cell more
pub glyphs_more : (m : Map) (cell : Cell) (t : Terrain) (text before : List ℕ) → length m.terrain ≡ m.width * m.height → cell.x < m.width → cell.y < m.height
    → t ≡ terrain_of m cell → text ≡ before ++ map glyph (take cell.x (drop (cell.y * m.width) m.terrain))
    → text ++ glyph t ∷ [] ≡ before ++ map glyph (take (cell.x + 1) (drop (cell.y * m.width) m.terrain))
glyphs_more m cell t text before whole column row is so_far =
    let cells = drop (cell.y * m.width) m.terrain in
    let lt : cell.x < length cells = omega (arith, length-drop (cell.y * m.width) m.terrain, mul-add-lt cell.y m.width cell.x m.height row column, whole) in
    let t-is : t ≡ get_or cells cell.x Blocked = is ∙ sym (get_or-drop (cell.y * m.width) m.terrain cell.x Blocked) in
    let more : map glyph (take (cell.x + 1) cells) ≡ map glyph (take cell.x cells) ++ glyph t ∷ [] =
    map_more glyph cells cell.x Blocked lt ∙ ap (λ (c : Terrain). map glyph (take cell.x cells) ++ glyph c ∷ []) (sym t-is) in
    rw (so_far, more) (append_assoc before (map glyph (take cell.x cells)) (glyph t ∷ []))

-- the text, with what the rows from row y on add, is the canonical text
abbrev pub IsWrittenTo : Map → List ℕ → ℕ → Type 0
IsWrittenTo m text y = text ++ flat_map with_feed (row_texts m.width (m.height - y) (drop (y * m.width) m.terrain)) ≡ text_of m

-- one row more
pub written_more : (m : Map) (text next : List ℕ) (y : ℕ) → y < m.height
    → next ≡ text ++ with_feed (row_text m y) → IsWrittenTo m text y → IsWrittenTo m next (y + 1)
unfolding row_texts
written_more m text next y lt next-is so_far =
    let cells = drop (y * m.width) m.terrain in
    let row = map glyph (take m.width cells) in
    let others = row_texts m.width (m.height - (y + 1)) (drop m.width cells) in
    let one_more : m.height - y ≡ suc (m.height - (y + 1)) = omega arith in
    let place : y * m.width + m.width ≡ (y + 1) * m.width = omega arith in
    let left : drop m.width cells ≡ drop ((y + 1) * m.width) m.terrain = drop-drop m.width (y * m.width) m.terrain ∙ ap (λ (n : ℕ). drop n m.terrain) place in
    let now : row_texts m.width (m.height - y) cells ≡ row ∷ others = rw one_more refl in
    let joined : next ++ flat_map with_feed others ≡ text ++ flat_map with_feed (row_texts m.width (m.height - y) cells) =
    rw (next-is, now) (append_assoc text (with_feed row) (flat_map with_feed others)) in
    rw (← left) (joined ∙ so_far)

pub written_all : (m : Map) (text : List ℕ) (y : ℕ) → m.height ≤ y → IsWrittenTo m text y → text ≡ text_of m
unfolding row_texts
written_all m text y le so_far =
    let none : m.height - y ≡ 0 = omega arith in
    let now : row_texts m.width (m.height - y) (drop (y * m.width) m.terrain) ≡ [] = rw none refl in
    sym (append-nil text) ∙ ap (λ (rows : List (List ℕ)). text ++ flat_map with_feed rows) (sym now) ∙ so_far

header_is : (width height : ℕ) → header_text width height ≡ flat_map with_feed (header_texts width height)
header_is width height =
    let end = codes "map" ++ 10 ∷ [] in
    let width_line = codes "width " ++ (decimal width ++ 10 ∷ [] ++ end) in
    let second = append_assoc (decimal width) (10 ∷ []) end in
    let first = append_assoc (decimal height) (10 ∷ []) width_line in
    sym (ap (λ (rest : List ℕ). (codes "type octile" ++ 10 ∷ codes "height ") ++ rest)
    (first ∙ ap (λ (rest : List ℕ). decimal height ++ ((10 ∷ codes "width ") ++ rest)) second))

-- the header is written
pub written_none : (m : Map) (text : List ℕ) → text ≡ header_text m.width m.height → IsWrittenTo m text 0
unfolding text_of
written_none m text text-is =
    let is = text-is ∙ header_is m.width m.height in
    let rows = row_texts m.width m.height m.terrain in
    let start : 0 * m.width ≡ 0 = omega arith in
    let all : m.height - 0 ≡ m.height = omega arith in
    rw (start, all, is) (sym (flat_map-append with_feed (header_texts m.width m.height) rows))

-- ---- how long the text is

rows_length : (width rows : ℕ) (cells : List Terrain) → length (flat_map with_feed (row_texts width rows cells)) ≤ rows * (width + 1)
unfolding row_texts
rows_length width zero cells = omega arith
rows_length width (suc rows) cells =
    let row = map glyph (take width cells) in
    let rest = flat_map with_feed (row_texts width rows (drop width cells)) in
    let more = rows_length width rows (drop width cells) in
    omega (arith, more, length-append (row ++ 10 ∷ []) rest, length-append row (10 ∷ []), length-map (take width cells) glyph, length-take width cells)

pub text_length : (m : Map) → IsWithinLimits m.width m.height → length (text_of m) ≤ 2097152
unfolding text_of
text_length m within =
    let rows = row_texts m.width m.height m.terrain in
    let parts = flat_map-append with_feed (header_texts m.width m.height) rows in
    let whole = ap (λ (text : List ℕ). length text) parts in
    let joined = length-append (flat_map with_feed (header_texts m.width m.height)) (flat_map with_feed rows) in
    let header = ap (λ (text : List ℕ). length text) (header_is m.width m.height) in
    let end = codes "map" ++ 10 ∷ [] in
    let h = length-decimal-le 4 m.height (omega arith) (omega (arith, within.rows)) (omega (arith, within.rows)) in
    let w = length-decimal-le 4 m.width (omega arith) (omega (arith, within.columns)) (omega (arith, within.columns)) in
    let first = length-append (codes "type octile" ++ 10 ∷ codes "height ") (decimal m.height ++ ((10 ∷ codes "width ") ++ (decimal m.width ++ (10 ∷ end)))) in
    let second = length-append (decimal m.height) ((10 ∷ codes "width ") ++ (decimal m.width ++ (10 ∷ end))) in
    let third = length-append (10 ∷ codes "width ") (decimal m.width ++ (10 ∷ end)) in
    let fourth = length-append (decimal m.width) (10 ∷ end) in
    omega (arith, whole, joined, header, h, w, first, second, third, fourth, rows_length m.width m.height m.terrain, within.rows, within.columns, within.cells)
