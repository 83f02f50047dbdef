-- The places of cells in their bounds.
use Rattle.std.proofs.Common.{◌≡◌, ◌≢◌, ℕ, ◌+◌, ◌*◌, ◌<◌, ◌⊎◌, List, length, get_or, slice_index, set, replicate, All, sym, ap, ◌∙◌, inl, inr, arith}
use Rattle.std.specs.List.{AllPairs, Contains}
use Rattle.std.proofs.lemmas.Bool.{cases_lt, cases_eq}
use Rattle.std.proofs.lemmas.List.{get_or_default, get_or-set_same, get_or-set_other, length-set, get_or-replicate, length-replicate}
use Rattle.moves.specs.declared.Cell.{Cell}
use Rattle.moves.specs.FirstSetLists.{cell_of}
use Rattle.moves.specs.Rectangles.{Rectangle, IsWithin, place_in}
use Rattle.moves.proofs.Rectangles.{same_place, place_below}
use Rattle.row_store.specs.declared.TheConstants.{NO_PLACE}
use Rattle.row_store.specs.Comps.{IsPlaceOf}
use Rattle.row_store.specs.Layout.{ArePlaces}

abbrev nowhere : Cell
nowhere = record { x = 0; y = 0 }

-- the number at the place of a cell is the cell's
pub place_of_cell : (cells : List Cell) (area : Rectangle) (places : List ℕ) (cell : Cell) (number : ℕ) → ArePlaces cells area places → IsWithin area cell
    → number ≡ slice_index places (place_in area cell) → number ≢ NO_PLACE → IsPlaceOf cells cell number
place_of_cell cells area places cell number p within is some =
    elim (p.only (place_in area cell) (omega (arith, p.whole, place_below area cell within))) [
      | inl none ↦ absurd (some (is ∙ none))
      | inr at ↦
          let inside : number < length cells = rw is at.0 in
          let there : place_in area (cell_of cells number) ≡ place_in area cell = rw is at.1 in
          record {
            within = inside;
            there = same_place area (cell_of cells number) cell (p.within number nowhere inside) within there;
          }
    ]

-- the number at the place of one of the cells is that cell's
pub place_of_contained : (cells : List Cell) (area : Rectangle) (places : List ℕ) (cell : Cell) (number : ℕ) → ArePlaces cells area places → Contains cells cell
    → number ≡ slice_index places (place_in area cell) → IsPlaceOf cells cell number
place_of_contained cells area places cell number p inside is =
    let here : cell_of cells inside.0 ≡ cell = get_or_default cells inside.0 nowhere cell inside.1 ∙ inside.2 in
    let at : number ≡ inside.0 = is ∙ ap (λ c. slice_index places (place_in area c)) (sym here) ∙ p.found inside.0 inside.1 in
    rw at (record { within = inside.1; there = here })

-- the cells before a place have their numbers
pub record AreNumbered (cells : List Cell) (area : Rectangle) (places : List ℕ) (upto : ℕ) : Type 0 where
  pub whole : length places ≡ area.width * area.height
  pub found : (place : ℕ) → place < upto → slice_index places (place_in area (cell_of cells place)) ≡ place
  pub only : (at : ℕ) → at < length places → (slice_index places at ≡ NO_PLACE)
      ⊎ ((slice_index places at < upto) × (place_in area (cell_of cells (slice_index places at)) ≡ at))

pub numbered_none : (cells : List Cell) (area : Rectangle) (places : List ℕ) → places ≡ replicate (area.width * area.height) NO_PLACE → AreNumbered cells area places 0
numbered_none cells area places blank =
    let size : length places ≡ area.width * area.height = ap length blank ∙ length-replicate (area.width * area.height) NO_PLACE in
    record {
      whole = size;
      found = λ place before. absurd (omega arith);
      only = λ at within.
          inl (ap (λ xs. get_or xs at 0) blank ∙ get_or-replicate (area.width * area.height) at NO_PLACE 0 (omega arith));
    }

module _ (cells : List Cell) (area : Rectangle) (places : List ℕ) (upto : ℕ) (p : AreNumbered cells area places upto)
    (in_area : All (IsWithin area) cells) (once : AllPairs (λ a b. a ≢ b) cells) (less : upto < length cells) where
  abbrev here : ℕ
  here = place_in area (cell_of cells upto)

  within_here : IsWithin area (cell_of cells upto)
  within_here = in_area upto nowhere less

  below_here : here < length places
  below_here = omega (arith, p.whole, place_below area (cell_of cells upto) within_here)

  -- an earlier cell has another place
  other_place : (place : ℕ) → place < upto → place_in area (cell_of cells place) ≢ here
  other_place place before same =
      once place upto nowhere before less
      (same_place area (cell_of cells place) (cell_of cells upto) (in_area place nowhere (omega arith)) within_here same)

  pub numbered_more : (number : ℕ) → number ≡ upto → AreNumbered cells area (set places here number) (upto + 1)
  numbered_more number is = rw is (record {
    whole = length-set places here upto ∙ p.whole;
    found = λ place before.
        elim (cases_lt place upto) [
          | inl early ↦ get_or-set_other places here (place_in area (cell_of cells place)) upto 0 (other_place place early) ∙ p.found place early
          | inr late ↦
              let same : place ≡ upto = omega arith in
              rw same (get_or-set_same places here upto 0 below_here)
        ];
    only = λ at within.
        let inside : at < length places = omega (arith, length-set places here upto) in
        elim (cases_eq at here) [
          | inl same ↦
              let read : get_or (set places here upto) at 0 ≡ upto = rw same (get_or-set_same places here upto 0 below_here) in
              inr (rw read (omega arith, sym same))
          | inr other ↦
              let read : get_or (set places here upto) at 0 ≡ get_or places at 0 = get_or-set_other places here at upto 0 other in
              rw read
              (elim (p.only at inside) [
                | inl none ↦ inl none
                | inr old ↦ inr (omega (arith, old.0), old.1)
              ])
        ];
  })

pub numbered_all : (cells : List Cell) (area : Rectangle) (places : List ℕ) (upto : ℕ) → AreNumbered cells area places upto
    → All (IsWithin area) cells → upto ≡ length cells → ArePlaces cells area places
numbered_all cells area places upto p in_area all = record {
  whole = p.whole;
  within = in_area;
  found = λ place before. p.found place (omega arith);
  only = λ at within. rw (← all) (p.only at within);
}
