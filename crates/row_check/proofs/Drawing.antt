-- There is a map that has just the cells of a list.
use Rattle.std.proofs.Common.{◌≡◌, ℕ, ◌*◌, ◌<◌, Bool, true, false, List, [], ◌∷◌, length, get_or, set, replicate, All, Contains, inl, inr, sym, ap, ◌∙◌, arith}
use Rattle.std.proofs.lemmas.Bool.{cases_eq, false≢true}
use Rattle.std.proofs.lemmas.List.{get_or-set_same, get_or-set_other, length-set, length-replicate}
use Rattle.std.proofs.lemmas.List.Elements.{All-head, All-tail, All-contains}
use Rattle.moves.specs.declared.Cell.{Cell}
use Rattle.moves.specs.Maps.{Map, IsPassable, map_with, place_of}
use Rattle.moves.specs.Rectangles.{IsOnMap}
use Rattle.moves.specs.ComponentLaws.{HasJust}
use Rattle.moves.proofs.LandMaps.{passable_if_marked, marked_if_passable, land_is_like}
use Rattle.moves.proofs.OneValue.{one_value}
use Rattle.moves.proofs.RowMajor.{same_cell_from_place, place_inside, contains_later, contains_cases}

-- the sides of a square that has all cells of any map
abbrev side : ℕ
side = 4096

-- all cells are marked, and no others
marks_of : List Cell → List Bool
marks_of [] = replicate (side * side) false
marks_of (cell ∷ cells) = set (marks_of cells) (place_of side cell) true

length-marks_of : (cells : List Cell) → length (marks_of cells) ≡ side * side
unfolding marks_of
length-marks_of [] = length-replicate (side * side) false
length-marks_of (cell ∷ cells) = length-set (marks_of cells) (place_of side cell) true ∙ length-marks_of cells

below : (cell : Cell) → IsOnMap cell → place_of side cell < side * side
below cell on = place_inside side side cell on.column on.row

in_if_marked : (cells : List Cell) → All IsOnMap cells → (cell : Cell) → IsOnMap cell → get_or (marks_of cells) (place_of side cell) false ≡ true → Contains cells cell
unfolding marks_of
in_if_marked [] all cell on mark = absurd (false≢true (sym (one_value (side * side) (place_of side cell) false) ∙ mark))
in_if_marked (first ∷ cells) all cell on mark = elim (cases_eq (place_of side cell) (place_of side first)) [
  | inl same ↦
      let is : first ≡ cell = sym (same_cell_from_place side cell first on.column (All-head IsOnMap first cells all).column same) in
      (0, omega arith, is)
  | inr apart ↦ contains_later first cells cell
      (in_if_marked cells (All-tail IsOnMap first cells all) cell on (sym (get_or-set_other (marks_of cells) (place_of side first) (place_of side cell) true false apart) ∙ mark))
]

marked_if_in : (cells : List Cell) → All IsOnMap cells → (cell : Cell) → IsOnMap cell → Contains cells cell → get_or (marks_of cells) (place_of side cell) false ≡ true
unfolding marks_of
marked_if_in [] all cell on has = absurd (let none = has.1 in omega arith)
marked_if_in (first ∷ cells) all cell on has = elim (cases_eq (place_of side cell) (place_of side first)) [
  | inl same ↦
      let l = below first (All-head IsOnMap first cells all) in
      let size = length-marks_of cells in
      ap (λ k. get_or (set (marks_of cells) (place_of side first) true) k false) same ∙ get_or-set_same (marks_of cells) (place_of side first) true false (omega (arith, l, size))
  | inr apart ↦
      elim (contains_cases first cells cell has) [
        | inl is ↦ absurd (apart (ap (place_of side) (sym is)))
        | inr later ↦ get_or-set_other (marks_of cells) (place_of side first) (place_of side cell) true false apart ∙ marked_if_in cells (All-tail IsOnMap first cells all) cell on later
      ]
]

module _ (cells : List Cell) (all : All IsOnMap cells) where
  drawn : Map
  drawn = map_with side side (marks_of cells)

  free_if_in : (cell : Cell) → Contains cells cell → IsPassable (map_with side side (marks_of cells)) cell
  free_if_in cell has =
      let on : IsOnMap cell = All-contains IsOnMap cells cell all has in
      passable_if_marked side side (marks_of cells) cell (record { column = on.column; row = on.row }) (marked_if_in cells all cell on has)

  in_if_free : (cell : Cell) → IsPassable (map_with side side (marks_of cells)) cell → Contains cells cell
  in_if_free cell free = in_if_marked cells all cell (record { column = free.inside.column; row = free.inside.row }) (marked_if_passable side side (marks_of cells) cell free)

  pub some_map : (map : Map) × HasJust map cells
  some_map = (
    map_with side side (marks_of cells),
    record {
      just_these = λ cell. (in_if_free cell, free_if_in cell);
      one_class = λ cell other here there. land_is_like side side (marks_of cells) cell other (free_if_in cell here) (free_if_in other there);
    },
  )
