use Rattle.std.proofs.Common.{◌≡◌, ◌≤◌, map}
use Rattle.std.specs.List.{range_with_len}
use Rattle.path_image.specs.Images.{row_start}
use Rattle.path_image.specs.Writing.{Puts}
use Rattle.path_image.proofs.writing.put_borders.Given as goal

abbrev pub invariant-loop-place : goal.invariant-loop-place
invariant-loop-place g l = record {
  put : Puts (g.S.Sink.bytes l.fn.sink) l.fn.piece (g.S.Sink.bytes l.sink) l.piece (map (row_start l.comp.rows) (range_with_len 0 l.place));
  later : g.S.Sink.faults l.fn.sink ≤ g.S.Sink.faults l.sink;
  border : l.border ≡ row_start l.comp.rows l.place;
}
