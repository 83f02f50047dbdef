-- A ball of cells as a test.
use Rattle.std.proofs.Common.{◌≡◌, ℕ, zero, suc, ◌<◌, Bool, true, false, ◌||◌, inl, inr, sym, ap, ◌∙◌, arith}
use Rattle.std.proofs.lemmas.Bool.{false≢true, cases_eq, or_cases, or_left, or_right}
use Rattle.moves.specs.declared.Cell.{Cell}
use Rattle.moves.specs.Maps.{is_cell}
use Rattle.moves.proofs.Connected.{is_cell-true, is_cell-same}

-- whether the cell is one of the first of these
abbrev pub among : (ℕ → Cell) → ℕ → Cell → Bool
among cells zero cell = false
among cells (suc count) cell = is_cell cell (cells count) || among cells count cell

pub among-true : (cells : ℕ → Cell) (count : ℕ) (cell : Cell) → among cells count cell ≡ true → (k : ℕ) × (k < count) × (cells k ≡ cell)
among-true cells zero cell h = absurd (false≢true h)
among-true cells (suc count) cell h = elim (or_cases (is_cell cell (cells count)) (among cells count cell) h) [
  | inl here ↦ (count, omega arith, is_cell-true cell (cells count) here)
  | inr before ↦ let at = among-true cells count cell before in (at.0, (let l = at.1 in omega arith), at.2)
]

pub among-from : (cells : ℕ → Cell) (count : ℕ) (cell : Cell) (k : ℕ) → k < count → cells k ≡ cell → among cells count cell ≡ true
among-from cells zero cell k l e = absurd (omega arith)
among-from cells (suc count) cell k l e = elim (cases_eq k count) [
  | inl same ↦ or_left (is_cell cell (cells count)) (among cells count cell) (is_cell-same cell (cells count) (ap cells (sym same) ∙ e))
  | inr other ↦ or_right (is_cell cell (cells count)) (among cells count cell) (among-from cells count cell k (omega arith) e)
]
