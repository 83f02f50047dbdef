use Rattle.row_edit.specs.Parts.{HoldsCommon}
use Rattle.row_edit.proofs.known.shared.Given as goal

abbrev pub invariant-loop-one : goal.invariant-loop-one
invariant-loop-one l = HoldsCommon l.known l.from l.upto l.all
