use Rattle.std.proofs.Common.{◌≤◌, take}
use Rattle.std.specs.List.{flat_map}
use Rattle.path_image.specs.Images.{table_of}
use Rattle.path_image.specs.Writing.{Puts}
use Rattle.path_image.proofs.writing.put_tables.Given as goal

abbrev pub invariant-loop-label : goal.invariant-loop-label
invariant-loop-label g l = record {
  put : Puts (g.S.Sink.bytes l.fn.sink) l.fn.piece (g.S.Sink.bytes l.sink) l.piece (flat_map table_of (take l.label l.version.comps));
  later : g.S.Sink.faults l.fn.sink ≤ g.S.Sink.faults l.sink;
}
