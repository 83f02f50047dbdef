use Rattle.std.proofs.Common.{◌+◌, length, ap, subst, ◌∙◌, arith}
use Rattle.run_pack.proofs.RowLemmas.{length-row}
use Rattle.row_store.specs.Rows.{row_at}
use Rattle.row_check.specs.Marking.{edges_of}
use Rattle.row_check.specs.Following.{IsCursor}
use Rattle.row_check.proofs.Standing.{gone_on_at}
use Rattle.row_check.proofs.cursors.advance_one.Goals as goal

pub overflow_add-run : goal.overflow_add-run
overflow_add-run c =
    let row = c.requires.rows.each c.args.source c.requires.places.1 in
    let within = (c.requires.cursors.each c.args.source c.requires.places.1).has.within in
    let few = length-row (row_at c.args.rows.now c.args.source) (length c.args.near.now) row in
    omega (arith, within, few, c.requires.rows.few, c.from-run.ensures)

pub returns-clause-on : goal.returns-clause-on
returns-clause-on c =
    let row = c.requires.rows.each c.args.source c.requires.places.1 in
    gone_on_at c.args.rows.now c.args.near.now c.args.cursors.now c.args.source c.args.target c.cursor_at.result c.requires.cursors c.requires.places.1
    (subst (λ runs. IsCursor runs (edges_of c.args.near.now c.args.source) (length c.args.near.now) c.cursor_at.result) c.row.ensures.row c.cursor_at.ensures.cursor)
    row (omega (arith, c.if-from-target.false, c.from.ensures)) c.requires.places.0 (c.cursor_at.ensures.run ∙ ap (λ n. n + 1) c.from-run.ensures)
