-- Two lists of cells of which the one has some cells more than the other: those at the gaps.
use Rattle.std.specs.Prelude.{◌≡◌, ℕ, ◌+◌, ◌≤◌, ◌<◌, nat_lt, if◌then◌else◌, List, [], ◌∷◌, length}
use Rattle.moves.specs.declared.Cell.{Cell}
use Rattle.moves.specs.FirstSetLists.{cell_of}
use Rattle.kept_rows.specs.declared.gap.TheConstants.{MAX_GAPS}

-- where a place of a list stands in that with one cell more: one later from the gap on
abbrev pub past_one : ℕ → ℕ → ℕ
past_one gap place = if nat_lt place gap then place else place + 1

-- where a place of the shorter list stands in the longer one
abbrev pub past : List ℕ → ℕ → ℕ
past [] place = place
past (gap ∷ gaps) place = past gaps (past_one gap place)

-- rising places from the least on, each at the end of so many cells and the gaps before it at most
abbrev pub AreGaps : ℕ → ℕ → List ℕ → Type 0
AreGaps least count [] = Unit {0}
AreGaps least count (gap ∷ gaps) = (least ≤ gap) × (gap ≤ count) × AreGaps (gap + 1) (count + 1) gaps

-- one list has the cells of the other but for those at the gaps, in the same order
pub record IsPart (whole part : List Cell) (gaps : List ℕ) : Type 0 where
  pub some : 0 < length gaps
  pub few : length gaps ≤ MAX_GAPS
  pub are_gaps : AreGaps 0 (length part) gaps
  pub size : length whole ≡ length part + length gaps
  pub same : (place : ℕ) → place < length part → cell_of part place ≡ cell_of whole (past gaps place)
