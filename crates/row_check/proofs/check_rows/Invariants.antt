use Rattle.row_check.specs.Checking.{IsCheckedAmong, IsReady}
use Rattle.row_check.proofs.check_rows.Given as goal

abbrev pub invariant-loop-target : goal.invariant-loop-target
invariant-loop-target l = IsReady l.cells l.rows l.scratch l.target × IsCheckedAmong l.cells l.rows l.scratch l.target
