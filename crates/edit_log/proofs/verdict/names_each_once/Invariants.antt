use Rattle.edit_log.proofs.EditVerdicts.{AreApart}
use Rattle.edit_log.proofs.verdict.names_each_once.Given as goal

abbrev pub invariant-loop-place : goal.invariant-loop-place
invariant-loop-place l = AreApart l.initial.changes l.place
