use Rattle.std.proofs.Common.{◌+◌, ◌*◌, count_by, vec_len}
use Rattle.cell_order.proofs.Walking.{IsWalk}
use Rattle.cell_order.proofs.depth_first.Given as goal

abbrev pub invariant-loop-cell : goal.invariant-loop-cell
invariant-loop-cell l = IsWalk l.cells l.unseen l.order.items l.pending.items

abbrev pub decreases-loop-cell : goal.decreases-loop-cell
decreases-loop-cell l = 5 * count_by (λ mark. mark) l.unseen.marks + vec_len l.pending
