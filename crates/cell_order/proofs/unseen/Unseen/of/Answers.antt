use Rattle.std.proofs.Common.{◌≡◌, ◌≤◌, length, get_or, arith}
use Rattle.std.proofs.lemmas.List.{take_all, get_or_default}
use Rattle.moves.specs.declared.Cell.{Cell}
use Rattle.cell_order.proofs.Boxing.{marking_more}
use Rattle.cell_order.proofs.unseen.Unseen.of.Goals as goal

pub loop-cell-preserved : goal.loop-cell-preserved
loop-cell-preserved c =
    let corner : Cell = record { x = 0; y = 0 } in
    let cell : Cell = get_or c.args.cells.now c.loop-cell.cell-index corner in
    rw c.insert.ensures
    (marking_more c.args.cells.now c.loop-cell.cell-index c.in_ok-unseen.unseen c.loop-cell.unseen cell c.loop-cell.invariant c.loop-cell-test.true
    (get_or_default c.args.cells.now c.loop-cell.cell-index corner cell c.loop-cell-test.true)
    (c.in_ok-unseen.ensures.within c.loop-cell.cell-index corner c.loop-cell-test.true))

pub returns-clause-marked : goal.returns-clause-marked
returns-clause-marked c =
    let all : c.loop-cell.cell-index ≡ length c.args.cells.now = omega arith in
    let most : length c.args.cells.now ≤ length c.args.cells.now = omega arith in
    rw (all, take_all (length c.args.cells.now) c.args.cells.now most) at c.loop-cell.invariant.marked
