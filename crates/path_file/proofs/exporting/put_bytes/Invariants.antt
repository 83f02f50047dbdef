use Rattle.std.proofs.Common.{◌≤◌, take}
use Rattle.path_file.specs.Puttings.{Writes}
use Rattle.path_file.proofs.exporting.put_bytes.Given as goal

abbrev pub invariant-loop-byte : goal.invariant-loop-byte
invariant-loop-byte g l = record {
  written : Writes (g.S.Sink.bytes l.fn.sink) (g.S.Sink.bytes l.sink) l.fn.buffer l.buffer (take l.byte-index l.bytes);
  later : g.S.Sink.faults l.fn.sink ≤ g.S.Sink.faults l.sink;
}
