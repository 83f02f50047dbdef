use Rattle.edit_log.proofs.EditedMaps.{IsEditedTo}
use Rattle.edit_log.proofs.edit.make.Given as goal

abbrev pub invariant-loop-change : goal.invariant-loop-change
invariant-loop-change l = IsEditedTo l.initial.grid l.initial.changes l.change-index l.grid
