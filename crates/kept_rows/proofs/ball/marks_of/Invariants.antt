use Rattle.std.proofs.Common.{ℕ, ◌<◌, ◌⊎◌, get_or}
use Rattle.std.specs.Prelude.{IsBitSet}
use Rattle.kept_rows.specs.Targets.{StaysIn}
use Rattle.kept_rows.proofs.ball.marks_of.Given as goal

abbrev pub invariant-loop-index : goal.invariant-loop-index
invariant-loop-index l = (k : ℕ) → k < l.index → StaysIn l.part.near l.ball (get_or l.ball k 0) ⊎ IsBitSet l.marks k
