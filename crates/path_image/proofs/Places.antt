-- The word of a cell, from where the cell stands in the components.
use Rattle.std.proofs.Common.{◌≡◌, ◌≢◌, ℕ, zero, suc, ◌+◌, ◌*◌, ◌<◌, false, ltb, List, [], ◌∷◌, length, get_or, refl, sym, ap, ◌∙◌, arith}
use Rattle.std.specs.List.{Contains, AllPairs}
use Rattle.std.proofs.lemmas.Bool.{lt-ltb, le-ltb, false_from_ne_true, cond-true, cond-false}
use Rattle.std.proofs.lemmas.List.{get_or_default}
use Rattle.std.proofs.lemmas.List.Sums.{position_or_len_is}
use Rattle.moves.specs.declared.Cell.{Cell}
use Rattle.moves.specs.Maps.{is_cell}
use Rattle.moves.proofs.Connected.{is_cell-true, is_cell-same}
use Rattle.row_store.specs.Comps.{Comp, IsPlaceOf}
use Rattle.versions.specs.Databases.{comp_at}
use Rattle.path_image.specs.declared.TheConstants.{HALF, BLOCKED}
use Rattle.path_image.specs.Images.{home_word, place_among}

nowhere : Cell
nowhere = record { x = 0; y = 0 }

other_cell : (a b : Cell) → (b ≡ a → ⊥) → is_cell a b ≡ false
other_cell a b apart = false_from_ne_true (is_cell a b) (λ same. apart (is_cell-true a b same))

-- a cell that stands at a place of a component stands first there
pub place_among-at : (comp : Comp) (cell : Cell) (place : ℕ) → IsPlaceOf comp.cells cell place → AllPairs (λ a b. a ≢ b) comp.cells → place_among comp cell ≡ place
place_among-at comp cell place at once =
    position_or_len_is (is_cell cell) comp.cells place (record { x = 0; y = 0 }) (let w = at.within in omega arith)
    (λ k before. other_cell cell (get_or comp.cells k (record { x = 0; y = 0 })) (λ same.
    once k place (record { x = 0; y = 0 }) before at.within (same ∙ sym at.there)))
    (λ inside. is_cell-same cell (get_or comp.cells place (record { x = 0; y = 0 })) at.there)

-- and one that stands nowhere in it has no place
pub place_among-none : (comp : Comp) (cell : Cell) → (Contains comp.cells cell → ⊥) → place_among comp cell ≡ length comp.cells
place_among-none comp cell none =
    position_or_len_is (is_cell cell) comp.cells (length comp.cells) (record { x = 0; y = 0 }) (omega arith)
    (λ k before. other_cell cell (get_or comp.cells k (record { x = 0; y = 0 })) (λ same.
    none (k, before, get_or_default comp.cells k cell (record { x = 0; y = 0 }) before ∙ same)))
    (λ inside. absurd (omega arith))

pub home_word-here : (label : ℕ) (comp : Comp) (comps : List Comp) (cell : Cell) (place : ℕ) → IsPlaceOf comp.cells cell place
    → AllPairs (λ a b. a ≢ b) comp.cells → home_word label (comp ∷ comps) cell ≡ label * HALF + place
unfolding home_word
home_word-here label comp comps cell place at once =
    let is = place_among-at comp cell place at once in
    let inside : place_among comp cell < length comp.cells = (let w = at.within in omega arith) in
    cond-true {A = ℕ} (ltb (place_among comp cell) (length comp.cells)) (label * HALF + place_among comp cell) (home_word (label + 1) comps cell) (lt-ltb _ _ inside)
    ∙ ap (λ p. label * HALF + p) is

pub home_word-later : (label : ℕ) (comp : Comp) (comps : List Comp) (cell : Cell) → (Contains comp.cells cell → ⊥)
    → home_word label (comp ∷ comps) cell ≡ home_word (label + 1) comps cell
unfolding home_word
home_word-later label comp comps cell none =
    let is = place_among-none comp cell none in
    cond-false {A = ℕ} (ltb (place_among comp cell) (length comp.cells)) (label * HALF + place_among comp cell) (home_word (label + 1) comps cell) (le-ltb _ _ (omega arith))

pub home_word-nil : (label : ℕ) (cell : Cell) → home_word label [] cell ≡ BLOCKED
unfolding home_word
home_word-nil label cell = refl

-- the word of a cell that stands in one component alone
pub home_word-at : (comps : List Comp) (label k place : ℕ) (cell : Cell) → k < length comps → IsPlaceOf (comp_at comps k).cells cell place
    → AllPairs (λ a b. a ≢ b) (comp_at comps k).cells → ((j : ℕ) → j < k → Contains (comp_at comps j).cells cell → ⊥)
    → home_word label comps cell ≡ (label + k) * HALF + place
home_word-at [] label k place cell within at once before = absurd (omega arith)
home_word-at (comp ∷ comps) label zero place cell within at once before =
    home_word-here label comp comps cell place at once ∙ (let e : label * HALF + place ≡ (label + 0) * HALF + place = omega arith in e)
home_word-at (comp ∷ comps) label (suc k) place cell within at once before =
    home_word-later label comp comps cell (before 0 (omega arith))
    ∙ home_word-at comps (label + 1) k place cell (omega arith) at once (λ j less. before (suc j) (omega arith))
    ∙ (let e : (label + 1 + k) * HALF + place ≡ (label + suc k) * HALF + place = omega arith in e)

-- and of one that stands in none
pub home_word-none : (comps : List Comp) (label : ℕ) (cell : Cell) → ((j : ℕ) → j < length comps → Contains (comp_at comps j).cells cell → ⊥)
    → home_word label comps cell ≡ BLOCKED
home_word-none [] label cell none = home_word-nil label cell
home_word-none (comp ∷ comps) label cell none =
    home_word-later label comp comps cell (none 0 (omega arith))
    ∙ home_word-none comps (label + 1) cell (λ j less. none (suc j) (omega arith))
