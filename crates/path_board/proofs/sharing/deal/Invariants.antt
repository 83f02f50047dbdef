use Rattle.std.proofs.Common.{length}
use Rattle.std.specs.Arc.{arc_value}
use Rattle.std.specs.Vec.{vec_capacity}
use Rattle.path_board.proofs.Dealt.{IsDealing}
use Rattle.path_board.proofs.sharing.deal.Given as goal

abbrev pub invariant-loop-seat : goal.invariant-loop-seat
invariant-loop-seat l = IsDealing arc_value l.fn.seats.items l.fn.versions.items (vec_capacity l.passes) l.seats.items l.versions.items l.passes.items

abbrev pub decreases-loop-seat : goal.decreases-loop-seat
decreases-loop-seat l = length l.seats.items
