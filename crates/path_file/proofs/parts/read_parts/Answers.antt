use Rattle.std.proofs.Common.{◌<◌, ℕ, length, ap, subst, sym, ◌∙◌, arith}
use Rattle.std.proofs.lemmas.Result.{err_from_is_err_and}
use Rattle.cell_order.specs.Orders.{ordered}
use Rattle.path_file.specs.Fields.{AreFileRows}
use Rattle.path_file.proofs.CellLemmas.{can_be_ordered}
use Rattle.path_file.proofs.PartReading.{parts_more, parts_refused}
use Rattle.path_file.proofs.parts.read_parts.Goals as goal

pub read_part-requires : goal.read_part-requires
read_part-requires c =
    rw c.cells.ensures
    (can_be_ordered c.args.grid.now c.width-width.ensures.limits c.width-width.ensures.whole c.requires.few c.args.labels.now c.requires.listed c.loop-label.label
    (omega (arith, c.loop-label-test.true, c.count-label-end.ensures)))

pub returns-in_err-part-clause-fault : goal.returns-in_err-part-clause-fault
returns-in_err-part-clause-fault c =
    let p = err_from_is_err_and c.from_residual-in_err-part.result c.from_residual-in_err-part.ensures.1 in
    let less : c.loop-label.label < length c.args.labels.now = omega (arith, c.loop-label-test.true, c.count-label-end.ensures) in
    let can = can_be_ordered c.args.grid.now c.width-width.ensures.limits c.width-width.ensures.whole c.requires.few c.args.labels.now c.requires.listed c.loop-label.label less in
    let size = ap length c.cells.ensures in
    rw (p.1, p.2) (parts_refused c.args.reader.now c.loop-label.reader c.args.order c.args.labels.now c.loop-label.parts.items c.loop-label.label c.loop-label.invariant
    c.args.grid.now c.width-width.ensures.whole c.requires.few c.requires.listed less (length c.cells.result.now) size (subst (λ (n : ℕ). 0 < n) (sym size) can.some)
    _ c.in_err-part.ensures.fault)

pub loop-label-preserved : goal.loop-label-preserved
loop-label-preserved c =
    parts_more c.args.reader.now c.loop-label.reader c.args.order c.args.labels.now c.loop-label.parts.items c.loop-label.label c.loop-label.invariant
    _ c.in_ok-part.part _ c.in_ok-part.ensures.rows (c.in_ok-part.ensures.cells ∙ ap (ordered c.args.order) c.cells.ensures)
    (subst (λ (n : ℕ). AreFileRows n c.in_ok-part.part.rows) (ap length c.cells.ensures) c.in_ok-part.ensures.shaped) c.in_ok-part.ensures.ready
    c.in_ok-push.ensures
