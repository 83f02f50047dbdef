use Rattle.std.proofs.Common.{◌≤◌, take}
use Rattle.row_store.specs.Rows.{row_at}
use Rattle.path_file.specs.Files.{runs_bytes}
use Rattle.path_file.specs.Puttings.{Writes}
use Rattle.path_file.proofs.exporting.put_row.Given as goal

abbrev pub invariant-loop-place : goal.invariant-loop-place
invariant-loop-place g l = record {
  written : Writes (g.S.Sink.bytes l.initial.sink) (g.S.Sink.bytes l.sink) l.initial.buffer l.buffer (runs_bytes (take l.place (row_at l.comp.rows l.source)));
  later : g.S.Sink.faults l.initial.sink ≤ g.S.Sink.faults l.sink;
}
