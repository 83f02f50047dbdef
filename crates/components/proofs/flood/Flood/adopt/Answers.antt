use Rattle.std.proofs.Common.{arith}
use Rattle.std.proofs.lemmas.Bool.{iff_false}
use Rattle.components.proofs.Marking.{room_for}
use Rattle.components.proofs.Below.{read_at}
use Rattle.components.proofs.Adopting.{adopting_start, adopting_skip, adopting_more, adopted_floods}
use Rattle.components.proofs.flood.Flood.adopt.Goals as goal
use Rattle.components.proofs.flood.Flood.adopt.Goals.{then-is_fresh, else-is_fresh}

pub mark-requires-clause-room : goal.mark-requires-clause-room
mark-requires-clause-room c = room_for _ _ _ c.requires.flooded.balanced c.requires.root

pub loop-cell-init : goal.loop-cell-init
loop-cell-init c = rw c.mark.ensures (adopting_start _ _ c.requires.label _ _ c.requires.root c.requires.flooded _ c.requires.component c.requires.has)

pub mark-requires-then-is_fresh-clause-room : goal.mark-requires-then-is_fresh-clause-room
mark-requires-then-is_fresh-clause-room c = room_for _ _ _ c.loop-cell.invariant.spread.balanced (c.is_fresh.ensures.0 c.if-is_fresh.true)

pub loop-cell-preserved : goal.loop-cell-preserved
loop-cell-preserved c =
    elim c.if-is_fresh.branch [
      | then-is_fresh w ↦
          rw (w.self-is, w.mark-then-is_fresh.ensures)
          (adopting_more _ _ c.requires.label _ _ c.requires.root c.requires.flooded _ c.requires.component c.requires.has _ _
          c.loop-cell.invariant _ c.loop-cell-test.true (read_at _ _ _ c.loop-cell-test.true) (c.is_fresh.ensures.0 w.if-is_fresh.true))
      | else-is_fresh w ↦
          rw w.self-is
          (adopting_skip _ _ c.requires.label _ _ c.requires.root c.requires.flooded _ c.requires.component c.requires.has _ _
          c.loop-cell.invariant _ c.loop-cell-test.true (read_at _ _ _ c.loop-cell-test.true)
          (iff_false c.is_fresh.ensures w.if-is_fresh.false))
    ]

pub returns-clause-flooded : goal.returns-clause-flooded
returns-clause-flooded c = adopted_floods _ _ c.requires.label _ _ c.requires.root c.requires.flooded _ c.requires.component c.requires.has _ _ c.loop-cell.invariant (omega arith)
