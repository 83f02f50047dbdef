-- Cells found by their index in a box.
use Rattle.std.proofs.Common.{◌≡◌, ◌≢◌, ℕ, ◌+◌, ◌-◌, ◌*◌, ◌<◌, ◌≤◌, List, length, get_or, set, All, AllPairs, Contains, inl, inr, sym, ap, subst, ◌∙◌, arith, get_or-set_other, get_or-set_same}
use Rattle.std.proofs.Math.ListN.{length-set}
use Rattle.std.proofs.lemmas.List.{get_or_default}
use Rattle.std.proofs.lemmas.Bool.{cases_lt, cases_eq}
use Rattle.std.proofs.lemmas.Nat.{same_from_place, mul-add-lt}
use Rattle.moves.specs.declared.Cell.{Cell}
use Rattle.moves.proofs.MoveLaws.{same_cell}
use Rattle.moves.specs.FirstSetLists.{cell_of}
use Rattle.lane_rows.specs.Tables.{IsInBox, IsIndexed, index_of}

-- the cells before a place lie between these ends
pub record HasBounds (cells : List Cell) (place left right top bottom : ℕ) : Type 0 where
  pub sides : (right < 4096) × (bottom < 4096)
  pub columns : (k : ℕ) (d : Cell) → k < place → (left ≤ (get_or cells k d).x) × ((get_or cells k d).x ≤ right)
  pub rows : (k : ℕ) (d : Cell) → k < place → (top ≤ (get_or cells k d).y) × ((get_or cells k d).y ≤ bottom)

-- one index is one cell
pub same_index : (left top width : ℕ) (a b : Cell) → IsInBox left top width a → IsInBox left top width b → index_of left top width a ≡ index_of left top width b → a ≡ b
same_index left top width a b p q e =
    let s = same_from_place (a.y - top) (a.x - left) (b.y - top) (b.x - left) width (let h = p.to_right in let g = p.from_left in omega arith) (let h = q.to_right in let g = q.from_left in omega arith) e in
    let rows : a.y - top ≡ b.y - top = s.0 in
    let columns : a.x - left ≡ b.x - left = s.1 in
    same_cell a b (let g = p.from_left in let h = q.from_left in omega arith) (let g = p.from_top in let h = q.from_top in omega arith)

-- one cell is one place
pub same_place : (cells : List Cell) → AllPairs (λ a b. a ≡ b → ⊥) cells → (i j : ℕ) → i < length cells → j < length cells → cell_of cells i ≡ cell_of cells j → i ≡ j
same_place cells once i j p q e = elim (cases_lt i j) [
  | inl l ↦ absurd (once i j (record { x = 0; y = 0 }) l q e)
  | inr g ↦ elim (cases_lt j i) [ inl l ↦ absurd (once j i (record { x = 0; y = 0 }) l p (sym e)) | inr h ↦ omega arith ]
]

-- the place is found at its cell's index
abbrev Held : ℕ → ℕ → ℕ → List Cell → List ℕ → ℕ → Type 0
Held left top width cells list place = IsInBox left top width (cell_of cells place)
    × (index_of left top width (cell_of cells place) < length list) × (get_or list (index_of left top width (cell_of cells place)) 0 ≡ place)

pub indexed_more : (left top width : ℕ) (places : List ℕ) (cells : List Cell) (count index : ℕ) → AllPairs (λ a b. a ≡ b → ⊥) cells → All (λ cell. IsInBox left top width cell) cells → count < length cells
    → index ≡ index_of left top width (cell_of cells count) → index < length places → IsIndexed left top width places cells count → IsIndexed left top width (set places index count) cells (count + 1)
indexed_more left top width places cells count index once inside few at room before = record {
  held = λ place l. elim (cases_eq place count) [
    | inl same ↦ subst (Held left top width cells (set places index count)) (sym same)
        (box count few, rw (← at) (let s = length-set places index count in omega arith), rw (← at) (get_or-set_same places index count 0 room))
    | inr apart ↦
        let h = before.held place (omega arith) in
        let other : index_of left top width (cell_of cells place) ≢ index =
        λ e. apart (same_place cells once place count (omega arith) few (same_index left top width (cell_of cells place) (cell_of cells count) h.0 (box count few) (e ∙ at))) in
        (h.0, (let k = h.1 in let s = length-set places index count in omega arith), get_or-set_other places index (index_of left top width (cell_of cells place)) count 0 other ∙ h.2)
  ];
  only = λ k l. elim (cases_eq k index) [
    | inl same ↦
        let is : get_or (set places index count) k 0 ≡ count = ap (λ j. get_or (set places index count) j 0) same ∙ get_or-set_same places index count 0 room in
        inr (omega arith, ap (λ p. index_of left top width (cell_of cells p)) is ∙ sym at ∙ sym same)
    | inr apart ↦
        let is : get_or (set places index count) k 0 ≡ get_or places k 0 = get_or-set_other places index k count 0 apart in
        elim (before.only k (let s = length-set places index count in omega arith)) [
          | inl none ↦ inl (is ∙ none)
          | inr some ↦ inr ((let g = some.0 in omega arith), ap (λ p. index_of left top width (cell_of cells p)) is ∙ some.1)
        ]
  ];
}
  where
    box : (place : ℕ) → place < length cells → IsInBox left top width (cell_of cells place)
    box place l = inside place (record { x = 0; y = 0 }) l

pub find_found : (left top width : ℕ) (places : List ℕ) (cells : List Cell) (cell : Cell) (index found : ℕ) → IsIndexed left top width places cells (length cells) → index < length places
    → found ≡ get_or places index 0 → IsInBox left top width cell → index ≡ index_of left top width cell → found < length cells → cell_of cells found ≡ cell
find_found left top width places cells cell index found indexed l e inside at few = elim (indexed.only index l) [
  | inl none ↦ absurd (omega arith)
  | inr some ↦
      let same : index_of left top width (cell_of cells found) ≡ index_of left top width cell = ap (λ p. index_of left top width (cell_of cells p)) e ∙ some.1 ∙ at in
      let h = indexed.held found few in
      same_index left top width (cell_of cells found) cell h.0 inside same
]

-- the index of a cell inside the bounds
pub index_within : (left right top bottom width height size : ℕ) (cell : Cell) → (left ≤ cell.x) × (cell.x ≤ right) → (top ≤ cell.y) × (cell.y ≤ bottom)
    → width ≡ right - left + 1 → height ≡ bottom - top + 1 → size ≡ width * height → index_of left top width cell < size
index_within left right top bottom width height size cell columns rows p q r =
    let c = columns.0 in let d = columns.1 in let e = rows.0 in let f = rows.1 in
    omega (arith, mul-add-lt (cell.y - top) width (cell.x - left) height (omega arith) (omega arith))

pub find_missing : (left top width : ℕ) (places : List ℕ) (cells : List Cell) (cell : Cell) (index : ℕ) → IsIndexed left top width places cells (length cells) → length places ≤ index
    → index ≡ index_of left top width cell → Contains cells cell → ⊥
find_missing left top width places cells cell index indexed beyond at here =
    let held = indexed.held here.0 here.1 in
    let same : index_of left top width (cell_of cells here.0) ≡ index_of left top width cell =
    ap (index_of left top width) (get_or_default cells here.0 (record { x = 0; y = 0 }) cell here.1 ∙ here.2) in
    let low = held.1 in
    omega (arith, same, at)
