use Rattle.std.proofs.Common.{take, arith}
use Rattle.std.proofs.lemmas.List.{length-map, length-take-le}
use Rattle.path_image.specs.Images.{cell_word}
use Rattle.bake_parts.proofs.join.put_cells.Goals as goal

pub put-end-requires : goal.put-end-requires
put-end-requires c =
    let end = c.loop-cell.invariant.end in
    let size = length-map (take c.loop-cell.cell-index c.args.cells.now) cell_word in
    let taken = length-take-le c.loop-cell.cell-index c.args.cells.now (omega (arith, c.loop-cell-test.true)) in
    let few = c.requires.few in
    let at = c.requires.at in
    let less = c.loop-cell-test.true in
    omega arith
