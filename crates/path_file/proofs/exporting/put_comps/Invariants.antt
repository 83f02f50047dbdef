use Rattle.std.proofs.Common.{◌≤◌, map, take}
use Rattle.std.specs.Arc.{arc_value}
use Rattle.path_file.specs.Files.{comps_bytes}
use Rattle.path_file.specs.Puttings.{Writes, rows_of_comps}
use Rattle.path_file.proofs.exporting.put_comps.Given as goal

abbrev pub invariant-loop-comp : goal.invariant-loop-comp
invariant-loop-comp g l = record {
  written : Writes (g.S.Sink.bytes l.fn.sink) (g.S.Sink.bytes l.sink) l.fn.buffer l.buffer (comps_bytes (take l.comp-index (rows_of_comps (map arc_value l.comps))));
  later : g.S.Sink.faults l.fn.sink ≤ g.S.Sink.faults l.sink;
}
