use Rattle.std.proofs.Common.{◌-◌, ◌+◌, ◌≤◌, length}
use Rattle.run_pack.proofs.Packing.{IsFilledUpTo}
use Rattle.run_pack.proofs.fill.Given as goal

abbrev pub invariant-loop-next : goal.invariant-loop-next
invariant-loop-next g l = (l.done ≤ length l.sets) × IsFilledUpTo g.S.Stored.run_of l.fn.row.items l.row.items l.sets l.stretch.start l.stretch.common l.done

abbrev pub decreases-loop-next : goal.decreases-loop-next
decreases-loop-next g l = length l.sets - l.done

abbrev pub invariant-loop-ahead : goal.invariant-loop-ahead
invariant-loop-ahead g l = IsFilledUpTo g.S.Stored.run_of l.fn.row.items l.row.items l.sets l.stretch.start l.stretch.common (l.done + l.ahead)

abbrev pub invariant-loop-ahead-2 : goal.invariant-loop-ahead-2
invariant-loop-ahead-2 g l = IsFilledUpTo g.S.Stored.run_of l.fn.row.items l.row.items l.sets l.stretch.start l.stretch.common (l.done + l.ahead)
