use Rattle.path_file.proofs.RowReading.{IsRowTo}
use Rattle.path_file.proofs.rows.read_row.Given as goal

abbrev pub invariant-loop : goal.invariant-loop
invariant-loop l = IsRowTo l.fn.reader l.reader l.place.cells l.count l.words.items l.counter
