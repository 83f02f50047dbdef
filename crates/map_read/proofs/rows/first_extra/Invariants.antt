use Rattle.std.proofs.Common.{◌≡◌, ◌+◌, ◌<◌, ◌^◌, length}
use Rattle.map_read.specs.MapText.{extra_in}
use Rattle.map_read.proofs.rows.first_extra.Given as goal

abbrev pub invariant-loop-next : goal.invariant-loop-next
invariant-loop-next l = (extra_in l.next l.lines ≡ extra_in l.number l.initial.lines) × (l.next + length l.lines < 2 ^ 32)

abbrev pub decreases-loop-next : goal.decreases-loop-next
decreases-loop-next l = length l.lines
