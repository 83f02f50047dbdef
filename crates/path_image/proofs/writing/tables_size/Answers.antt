use Rattle.std.proofs.Common.{subst, arith}
use Rattle.moves.specs.Maps.{IsWithinLimits}
use Rattle.path_image.specs.Images.{table_of}
use Rattle.path_image.proofs.Sizes.{flat_front, small_image}
use Rattle.path_image.proofs.writing.tables_size.Goals as goal

pub returns-clause-limit : goal.returns-clause-limit
returns-clause-limit c =
    let sides = subst (λ map. IsWithinLimits map.width map.height) c.grid.ensures.map c.width-width.ensures.limits in
    let small = small_image c.args.version.now c.grid.ensures.version sides in
    let front = flat_front table_of c.args.version.now.comps c.loop-label.label in
    let size = c.loop-label.invariant.size in
    omega arith
