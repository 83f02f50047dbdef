use Rattle.edit_log.proofs.EditVerdicts.{IsWeighed}
use Rattle.edit_log.proofs.verdict.leaves_few.Given as goal

abbrev pub invariant-loop-change : goal.invariant-loop-change
invariant-loop-change l = IsWeighed l.initial.grid l.initial.changes l.change-index l.lost l.gained
