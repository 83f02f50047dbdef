use Rattle.std.proofs.Common.{◌≡◌, length, arith}
use Rattle.row_check.proofs.Proving.{are_rows}
use Rattle.row_check.proofs.check_rows.Goals as goal

pub returns-clause-right : goal.returns-clause-right
returns-clause-right c =
    let end : c.loop-target.target ≡ length c.args.cells.now = omega arith in
    let ready = rw end at c.loop-target.invariant.0 in
    let checked = rw end at c.loop-target.invariant.1 in
    are_rows c.args.cells.now c.args.rows.now c.requires.cells c.requires.rows _ ready.near.whole _ _ ready.cursors ready.behind checked
