use Rattle.kept_rows.proofs.Gaps.{IsPastTo}
use Rattle.kept_rows.proofs.gap.place_past.Given as goal

abbrev pub invariant-loop-gap : goal.invariant-loop-gap
invariant-loop-gap l = IsPastTo l.gaps l.place l.gap-index l.there
