use Rattle.std.proofs.Common.{ℕ, ◌+◌, ◌*◌, length, refl, sym, ap, ◌∙◌, arith}
use Rattle.std.proofs.lemmas.Result.{err_from_is_err_and}
use Rattle.map_read.proofs.RowLemmas.{filled_more, filled_fault, filled_all}
use Rattle.map_read.proofs.rows.read_cells.Goals as goal

pub returns-in_err-terrain-clause-cells : goal.returns-in_err-terrain-clause-cells
returns-in_err-terrain-clause-cells c =
    let p = err_from_is_err_and c.from_residual.result c.from_residual.ensures.1 in
    let bad = filled_fault c.args.y _ c.loop-x.x c.loop-x.count _ c.in_err-terrain.field-0.0 c.args.row.now _
    c.loop-x.cells c.loop-x-test.true refl (sym c.in_err-terrain.ensures) c.loop-x.invariant in
    rw (p.1, p.2) (rw c.from.ensures at bad)

pub loop-x-preserved : goal.loop-x-preserved
loop-x-preserved c =
    let start = ap (λ (n : ℕ). n * length c.args.row.now) c.from.ensures in
    filled_more c.args.y _ c.loop-x.x c.loop-x.count c.from-count.result _ c.in_ok-terrain.terrain c.args.row.now _ c.loop-x.cells c.loop-x-test.true refl
    (omega (arith, start, c.requires.room)) (sym c.in_ok-terrain.ensures) (λ e. rw (c.is_passable.ensures ∙ e) at c.from-count.ensures) (λ e. rw (c.is_passable.ensures ∙ e) at c.from-count.ensures) c.loop-x.invariant

pub returns-clause-cells : goal.returns-clause-cells
returns-clause-cells c =
    let start = ap (λ (n : ℕ). n * length c.args.row.now) c.from.ensures in
    let all = filled_all c.args.y _ c.loop-x.x c.loop-x.count ((c.args.y + 1) * length c.args.row.now)
    c.args.row.now _ c.loop-x.cells c.loop-x-test.false (omega (arith, start, c.loop-x.auto.x-end))
    c.loop-x.invariant in
    rw c.from.ensures at all.0
