use Rattle.std.proofs.Common.{length, ap, arith}
use Rattle.path_image.proofs.Sizes.{table_size}
use Rattle.path_image.proofs.writing.table_size.Goals as goal

pub returns-clause-size : goal.returns-clause-size
returns-clause-size c =
    let size = table_size c.args.comp.now in
    let cells = ap length c.cells.ensures.cells in
    let runs = c.runs.ensures.runs in
    omega arith
