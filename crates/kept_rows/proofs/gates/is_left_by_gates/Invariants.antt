use Rattle.std.proofs.Common.{ℕ, ◌<◌, length}
use Rattle.kept_rows.specs.Gates.{LeadOnlyBack}
use Rattle.kept_rows.proofs.gates.is_left_by_gates.Given as goal

abbrev pub invariant-loop-place : goal.invariant-loop-place
invariant-loop-place l = (k : ℕ) → k < l.place → LeadOnlyBack l.whole.near l.gaps (length l.cut.side.items) l.cut.side.items l.cut.gates k
