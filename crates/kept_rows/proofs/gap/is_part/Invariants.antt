use Rattle.std.proofs.Common.{◌≡◌, ℕ, ◌<◌}
use Rattle.moves.specs.FirstSetLists.{cell_of}
use Rattle.kept_rows.specs.Gaps.{past}
use Rattle.kept_rows.proofs.gap.is_part.Given as goal

abbrev pub invariant-loop-place : goal.invariant-loop-place
invariant-loop-place l = (k : ℕ) → k < l.place → cell_of l.part k ≡ cell_of l.whole (past l.gaps k)
