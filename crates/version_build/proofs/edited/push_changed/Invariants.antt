use Rattle.version_build.specs.Edited.{AreChangedBefore}
use Rattle.version_build.proofs.edited.push_changed.Given as goal

abbrev pub invariant-loop-column : goal.invariant-loop-column
invariant-loop-column l = AreChangedBefore l.fn.old l.fn.new l.column l.fn.row l.changed.items
