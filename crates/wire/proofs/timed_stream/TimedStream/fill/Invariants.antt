use Rattle.std.proofs.Common.{◌≡◌, []}
use Rattle.wire.proofs.timed_stream.TimedStream.fill.Given as goal

abbrev pub invariant-loop : goal.invariant-loop
invariant-loop g l = record { watch : l.self.watch ≡ l.fn.self.watch; empty : l.self.inbox ≡ [] }
