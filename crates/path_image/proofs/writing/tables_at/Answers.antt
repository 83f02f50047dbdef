use Rattle.std.proofs.Common.{◌*◌, ◌≤◌, arith}
use Rattle.moves.specs.declared.TheConstants.{MAX_CELLS}
use Rattle.path_image.proofs.Sizes.{few_comps}
use Rattle.path_image.proofs.writing.tables_at.Goals as goal

pub overflow_add-result-2 : goal.overflow_add-result-2
overflow_add-result-2 c =
    let few = few_comps c.args.version.now c.grid-grid.ensures.version in
    let cells : c.width.result * c.height.result ≤ MAX_CELLS = rw (c.width.ensures.width, c.height.ensures.height) c.width.ensures.limits.cells in
    let comps = c.totals.ensures.comps in
    omega arith

pub returns-clause-limit : goal.returns-clause-limit
returns-clause-limit c =
    let few = few_comps c.args.version.now c.grid-grid.ensures.version in
    let cells : c.width.result * c.height.result ≤ MAX_CELLS = rw (c.width.ensures.width, c.height.ensures.height) c.width.ensures.limits.cells in
    let comps = c.totals.ensures.comps in
    omega arith
