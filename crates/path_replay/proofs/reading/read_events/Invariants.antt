use Rattle.std.proofs.Common.{length}
use Rattle.path_replay.proofs.LinesRead.{AreReadTo}
use Rattle.path_replay.proofs.reading.read_events.Given as goal

abbrev pub invariant-loop-line : goal.invariant-loop-line
invariant-loop-line l = AreReadTo l.bytes l.number l.events l.lines

abbrev pub decreases-loop-line : goal.decreases-loop-line
decreases-loop-line l = length l.lines
