use Rattle.std.proofs.Common.{sym, subst, get_or, inr}
use Rattle.moves.specs.MoveSets.{Has}
use Rattle.moves.proofs.MovesInSets.{empty_is_none}
use Rattle.lane_rows.proofs.Sets.{byte_lane}
use Rattle.lane_rows.proofs.kernels.with_first.Goals as goal
use Rattle.lane_rows.proofs.kernels.with_first.Goals.{then-has_empty, else-has_empty}

pub returns-clause-started : goal.returns-clause-started
returns-clause-started c = λ lane first l none start. elim c.if-has_empty.branch [
  | then-has_empty w ↦ subst (λ v. Has (get_or v lane 0) first) (sym w.result-is) ((w.joined.ensures lane first l).1 (inr ((w.first_moves.ensures lane first l).1 start)))
  | else-has_empty w ↦ absurd (c.has_empty.ensures w.if-has_empty.false lane l (empty_is_none _ (byte_lane c.args.union lane c.fits-union) none))
]
