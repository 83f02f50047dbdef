use Rattle.std.proofs.Common.{sym, subst, arith}
use Rattle.std.proofs.lemmas.Result.{err_from_is_err_and}
use Rattle.bake_words.specs.Cells.{AreCells}
use Rattle.bake_words.proofs.Given.{as_many}
use Rattle.bake_words.proofs.cells.grid_of_cells.Goals as goal

pub returns-in_err-terrain-clause-fault : goal.returns-in_err-terrain-clause-fault
returns-in_err-terrain-clause-fault c =
    let p = err_from_is_err_and c.from_residual.result c.from_residual.ensures.1 in
    rw (p.1, p.2) (c.in_err-terrain.ensures.fault c.args.width c.args.height)

pub returns-then-passable_count-gt-MAX_PASSABLE-clause-fault :
    goal.returns-then-passable_count-gt-MAX_PASSABLE-clause-fault
returns-then-passable_count-gt-MAX_PASSABLE-clause-fault c = λ m has.
    as_many c.args.cells.now c.in_ok-grid.grid m (subst (λ grid. AreCells c.args.cells.now grid.terrain) (sym c.in_ok-grid.ensures) c.in_ok-terrain.ensures.cells) has.cells
    (omega (arith, c.passable_count.ensures, c.if-passable_count-gt-MAX_PASSABLE.true))
