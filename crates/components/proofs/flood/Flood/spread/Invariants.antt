use Rattle.std.proofs.Common.{◌-◌, length}
use Rattle.components.proofs.Spreading.{IsSpreading}
use Rattle.components.proofs.flood.Flood.spread.Given as goal

abbrev pub invariant-loop-next : goal.invariant-loop-next
invariant-loop-next l = IsSpreading l.grid l.label l.fn.root l.fn.self l.next l.self

abbrev pub decreases-loop-next : goal.decreases-loop-next
decreases-loop-next l = length l.self.found - l.next
