use Rattle.std.proofs.Common.{◌≡◌, ◌∙◌, arith}
use Rattle.std.proofs.lemmas.Result.{err_from_is_err_and}
use Rattle.map_read.proofs.RowLemmas.{rows_missing, rows_bad_line, rows_bad_cell, rows_more, rows_all}
use Rattle.map_read.proofs.rows.read_rows.Goals as goal

pub returns-in_default-clause-cells : goal.returns-in_default-clause-cells
returns-in_default-clause-cells c =
    rw c.from.ensures (rows_missing c.args.sides.width c.args.sides.height c.loop-y.y c.loop-y.free
    c.args.lines.now c.loop-y.lines c.loop-y.cells c.loop-y-test.true c.loop-y.invariant c.in_default.ensures.line)

pub returns-in_err-row-clause-cells : goal.returns-in_err-row-clause-cells
returns-in_err-row-clause-cells c =
    let p = err_from_is_err_and c.from_residual.result c.from_residual.ensures.1 in
    let bad = rw c.from-in-loop-y.ensures at c.in_err-row.ensures.row in
    rw (p.1, p.2) (rows_bad_line c.args.sides.width c.args.sides.height c.loop-y.y c.loop-y.free c.args.lines.now c.loop-y.lines c.loop-y.cells c.loop-y-test.true c.loop-y.invariant
    c.in-Some.line.now c.next.new.self c.in_err-row.field-0.0 c.in-Some.ensures.line bad)

pub returns-in_err-free-clause-cells : goal.returns-in_err-free-clause-cells
returns-in_err-free-clause-cells c =
    let p = err_from_is_err_and c.from_residual-in_err-free.result c.from_residual-in_err-free.ensures.1 in
    let good = rw c.from-in-loop-y.ensures at c.in_ok-row.ensures.row in
    let bad = rw c.in_ok-row.ensures.width at c.in_err-free.ensures.cells in
    rw (p.1, p.2) (rows_bad_cell c.args.sides.width c.args.sides.height c.loop-y.y c.loop-y.free c.args.lines.now c.loop-y.lines c.loop-y.cells c.loop-y-test.true c.loop-y.invariant
    c.in-Some.line.now c.in_ok-row.row.now c.next.new.self c.in_err-free.field-0.0 c.in-Some.ensures.line good bad)

pub loop-y-preserved : goal.loop-y-preserved
loop-y-preserved c =
    let good = rw c.from-in-loop-y.ensures at c.in_ok-row.ensures.row in
    let filled = rw c.in_ok-row.ensures.width at c.in_ok-free.ensures.cells in
    let count = rw c.in_ok-row.ensures.width at c.in_ok-free.ensures.free in
    rows_more c.args.sides.width c.args.sides.height c.loop-y.y c.loop-y.free c.args.lines.now c.loop-y.lines c.loop-y.cells c.loop-y-test.true c.loop-y.invariant
    c.in-Some.line.now c.in_ok-row.row.now c.next.new.self c.in_ok-free.free c.read_cells.new.cells c.in-Some.ensures.line good filled count c.in_ok-free.ensures.limit

pub returns-clause-cells : goal.returns-clause-cells
returns-clause-cells c =
    let end : c.loop-y.y ≡ c.args.sides.height = omega (arith, c.loop-y.auto.y-end, c.loop-y-test.false) in
    let all = rows_all c.args.sides.width c.args.sides.height c.loop-y.y c.loop-y.free c.args.lines.now c.loop-y.lines c.loop-y.cells (c.loop-y.auto.cells ∙ c.requires.whole) end c.loop-y.invariant in
    all.0
