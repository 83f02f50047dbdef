use Rattle.path_image.specs.Reading.{HasTables}
use Rattle.path_image.proofs.checking.check_tables.Given as goal

abbrev pub invariant-loop-component : goal.invariant-loop-component
invariant-loop-component l = HasTables l.words l.component
