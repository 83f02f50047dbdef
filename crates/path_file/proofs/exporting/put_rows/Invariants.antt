use Rattle.std.proofs.Common.{◌≤◌, take}
use Rattle.path_file.specs.Files.{rows_bytes}
use Rattle.path_file.specs.Puttings.{Writes}
use Rattle.path_file.proofs.exporting.put_rows.Given as goal

abbrev pub invariant-loop-source : goal.invariant-loop-source
invariant-loop-source g l = record {
  written : Writes (g.S.Sink.bytes l.fn.sink) (g.S.Sink.bytes l.sink) l.fn.buffer l.buffer (rows_bytes (take l.source l.comp.rows));
  later : g.S.Sink.faults l.fn.sink ≤ g.S.Sink.faults l.sink;
}
