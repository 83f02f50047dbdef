use Rattle.std.specs.Io.KnownBytes.{Keeps}
use Rattle.wire.proofs.stream_link.read_some.Given as goal

abbrev pub invariant-loop : goal.invariant-loop
invariant-loop g l = Keeps (g.I.Read.remaining l.fn.reader) (g.I.Read.remaining l.reader)
