use Rattle.version_build.specs.Edited.{AreChangedBefore}
use Rattle.version_build.proofs.edited.changed_cells.Given as goal

abbrev pub invariant-loop-row : goal.invariant-loop-row
invariant-loop-row l = AreChangedBefore l.old l.new 0 l.row l.changed.items
