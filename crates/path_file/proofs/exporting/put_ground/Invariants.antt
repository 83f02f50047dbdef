use Rattle.std.proofs.Common.{◌≤◌, take}
use Rattle.path_file.specs.Files.{ground_bytes}
use Rattle.path_file.specs.Puttings.{Writes}
use Rattle.path_file.proofs.exporting.put_ground.Given as goal

abbrev pub invariant-loop-place : goal.invariant-loop-place
invariant-loop-place g l = record {
  written : Writes (g.S.Sink.bytes l.fn.sink) (g.S.Sink.bytes l.sink) l.fn.buffer l.buffer (take l.place (ground_bytes l.grid.terrain));
  later : g.S.Sink.faults l.fn.sink ≤ g.S.Sink.faults l.sink;
}
