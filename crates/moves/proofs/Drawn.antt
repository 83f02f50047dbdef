-- Drawn maps: the cells without the marks between rows are those of the rows, as many as the sides say.
use Rattle.std.proofs.Common.{◌≡◌, ℕ, zero, suc, ◌*◌, ◌<◌, eqb, Bool, not, List, [], ◌∷◌, length, map, replicate, refl, sym, ap, ◌∙◌, inl, inr, arith}
use Rattle.std.specs.List.{filter, flat_map, slice_split, onto_first}
use Rattle.std.proofs.lemmas.Bool.{cases_Bool}
use Rattle.std.proofs.lemmas.List.{length-append, length-map}
use Rattle.std.proofs.lemmas.List.Splits.{length-slice_split, slice_split-cons_yes, slice_split-cons_no}
use Rattle.moves.specs.Drawings.{terrain_drawn, rows_drawn, IsDrawing, cells_drawn}

abbrev is_mark : ℕ → Bool
is_mark byte = eqb byte 47

-- one byte more in the first row
first_row_longer : (byte : ℕ) (rows : List (List ℕ)) → 0 < length rows
    → flat_map (map terrain_drawn) (onto_first byte rows) ≡ terrain_drawn byte ∷ flat_map (map terrain_drawn) rows
first_row_longer byte [] some = absurd (omega arith)
first_row_longer byte (row ∷ rows) some = refl

pub cells_without_marks : (drawing : List ℕ) → map terrain_drawn (filter (λ byte. not (is_mark byte)) drawing) ≡ cells_drawn drawing
cells_without_marks [] = refl
cells_without_marks (byte ∷ drawing) = elim (cases_Bool (is_mark byte)) [
  | inl mark ↦ rw (slice_split-cons_yes is_mark byte drawing mark, mark) (cells_without_marks drawing)
  | inr cell ↦
      let some : 0 < length (slice_split is_mark drawing) = omega (arith, length-slice_split is_mark drawing) in
      rw (slice_split-cons_no is_mark byte drawing cell, cell)
      (ap (λ cells. terrain_drawn byte ∷ cells) (cells_without_marks drawing) ∙ sym (first_row_longer byte (slice_split is_mark drawing) some))
]

length_of_rows : (rows : List (List ℕ)) (width height : ℕ) → map length rows ≡ replicate height width
    → length (flat_map (map terrain_drawn) rows) ≡ width * height
length_of_rows [] width zero e = omega arith
length_of_rows [] width (suc height) e = absurd (cc)
length_of_rows (row ∷ rows) width zero e = absurd (cc)
length_of_rows (row ∷ rows) width (suc height) e =
    let first : length row ≡ width = cc in
    let others : map length rows ≡ replicate height width = cc in
    omega (arith, length-append (map terrain_drawn row) (flat_map (map terrain_drawn) rows), length-map row terrain_drawn, length_of_rows rows width height others, first)

pub length_of_cells : (drawing : List ℕ) (width height : ℕ) → IsDrawing width height drawing → length (cells_drawn drawing) ≡ width * height
length_of_cells drawing width height e = length_of_rows (rows_drawn drawing) width height e
