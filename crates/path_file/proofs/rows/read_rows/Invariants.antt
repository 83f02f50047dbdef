use Rattle.path_file.proofs.RowReading.{AreRowsTo}
use Rattle.path_file.proofs.rows.read_rows.Given as goal

abbrev pub invariant-loop-source : goal.invariant-loop-source
invariant-loop-source l = AreRowsTo l.fn.reader l.reader l.cells l.rows l.source
