use Rattle.std.proofs.Common.{List, get_or, arith}
use Rattle.std.proofs.lemmas.List.{get_or_default}
use Rattle.moves.specs.declared.Cell.{Cell}
use Rattle.build_pool.proofs.Boards.{marked_more, just_marked, few_marked}
use Rattle.build_pool.proofs.board.marks_of.Goals as goal

pub loop-cell-preserved : goal.loop-cell-preserved
loop-cell-preserved c =
    let cells : List Cell = c.args.cells.now in
    let index = c.loop-cell.cell-index in
    let corner : Cell = record { x = 0; y = 0 } in
    let at = get_or_default cells index corner (get_or cells index corner) c.loop-cell-test.true in
    rw c.place.ensures
    (marked_more cells c.args.width c.args.height c.loop-cell.marks.items index c.loop-cell.invariant c.requires.inside c.loop-cell-test.true (get_or cells index corner) at)

pub returns-clause-just : goal.returns-clause-just
returns-clause-just c = just_marked _ _ _ _ _ c.loop-cell.invariant c.requires.inside (omega arith)

pub returns-clause-few : goal.returns-clause-few
returns-clause-few c = few_marked _ _ _ _ _ c.loop-cell.invariant c.requires.inside (omega arith) c.requires.few
