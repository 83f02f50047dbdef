use Rattle.std.proofs.Common.{◌≤◌, take}
use Rattle.row_store.specs.Rows.{row_at}
use Rattle.path_image.specs.Images.{row_words}
use Rattle.path_image.specs.Writing.{Puts}
use Rattle.path_image.proofs.writing.put_row.Given as goal

abbrev pub invariant-loop-run : goal.invariant-loop-run
invariant-loop-run g l = record {
  put : Puts (g.S.Sink.bytes l.fn.sink) l.fn.piece (g.S.Sink.bytes l.sink) l.piece (take l.run (row_words (row_at l.comp.rows l.place)));
  later : g.S.Sink.faults l.fn.sink ≤ g.S.Sink.faults l.sink;
}
