-- The cells changed so far are in the list.
use Rattle.components.specs.Edits.{HaveSameSides, AreChanged}
use Rattle.row_cases.proofs.edits.edited.Given as goal

abbrev pub invariant-loop : goal.invariant-loop
invariant-loop l = HaveSameSides l.grid l.new × AreChanged l.grid l.new l.changed.items
