use Rattle.std.proofs.Common.{◌≡◌, ◌≤◌, map}
use Rattle.std.specs.List.{range_with_len}
use Rattle.path_image.specs.Images.{table_start}
use Rattle.path_image.specs.Writing.{Puts}
use Rattle.path_image.proofs.writing.put_starts.Given as goal

abbrev pub invariant-loop-label : goal.invariant-loop-label
invariant-loop-label g l = record {
  put : Puts (g.S.Sink.bytes l.fn.sink) l.fn.piece (g.S.Sink.bytes l.sink) l.piece (map (table_start l.version) (range_with_len 0 l.label));
  later : g.S.Sink.faults l.fn.sink ≤ g.S.Sink.faults l.sink;
  start : l.start ≡ table_start l.version l.label;
}
