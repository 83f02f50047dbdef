use Rattle.std.proofs.Common.{◌≤◌, take}
use Rattle.std.specs.List.{flat_map}
use Rattle.path_image.specs.Images.{row_words}
use Rattle.path_image.specs.Writing.{Puts}
use Rattle.path_image.proofs.writing.put_rows.Given as goal

abbrev pub invariant-loop-place : goal.invariant-loop-place
invariant-loop-place g l = record {
  put : Puts (g.S.Sink.bytes l.fn.sink) l.fn.piece (g.S.Sink.bytes l.sink) l.piece (flat_map row_words (take l.place l.comp.rows));
  later : g.S.Sink.faults l.fn.sink ≤ g.S.Sink.faults l.sink;
}
