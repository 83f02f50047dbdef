use Rattle.kept_rows.proofs.Gaps.{AreGapsTo}
use Rattle.kept_rows.proofs.gap.are_gaps.Given as goal

abbrev pub invariant-loop-gap : goal.invariant-loop-gap
invariant-loop-gap l = AreGapsTo l.count l.gaps l.gap-index l.least l.end
