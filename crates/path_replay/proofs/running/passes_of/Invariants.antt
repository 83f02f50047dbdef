use Rattle.path_replay.proofs.Replaying.{AreFreshTo}
use Rattle.path_replay.proofs.running.passes_of.Given as goal

abbrev pub invariant-loop : goal.invariant-loop
invariant-loop l = AreFreshTo l.board l.counter l.passes.items
