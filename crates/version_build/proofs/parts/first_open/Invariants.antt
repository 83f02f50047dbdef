use Rattle.std.proofs.Common.{◌≡◌, ◌<◌, ℕ}
use Rattle.version_build.specs.Builders.{part_at, rows_left}
use Rattle.version_build.proofs.parts.first_open.Given as goal

abbrev pub invariant-loop-label : goal.invariant-loop-label
invariant-loop-label l = (k : ℕ) → k < l.label → rows_left (part_at l.parts k) ≡ 0
