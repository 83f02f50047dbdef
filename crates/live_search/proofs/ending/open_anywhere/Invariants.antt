use Rattle.std.proofs.Common.{ℕ, ◌<◌}
use Rattle.live_search.specs.Ends.{IsOpenBelow}
use Rattle.live_search.proofs.ending.open_anywhere.Given as goal

abbrev pub invariant-loop-place : goal.invariant-loop-place
invariant-loop-place l = (place : ℕ) → place < l.place → IsOpenBelow l.seek l.state l.key place → ⊥
