use Rattle.components.specs.Edits.{AreFormerRanks}
use Rattle.components.proofs.edits.former_ranks.Given as goal

abbrev pub invariant-loop-label : goal.invariant-loop-label
invariant-loop-label l = AreFormerRanks l.labels l.touched l.label l.ranks.items
