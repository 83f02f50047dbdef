-- One cell more was written, and at the end all were.
use Rattle.std.proofs.Common.{◌≡◌, ◌+◌, subst, arith}
use Rattle.moves.specs.MoveMasks.{WritesMasks}
use Rattle.moves.proofs.Landscapes.{writes_cell}
use Rattle.moves.proofs.landscape.Landscape.write_row.Goals as goal

pub loop-x-preserved : goal.loop-x-preserved
loop-x-preserved c =
    writes_cell _ _ _ _ _ _ _ _ c.requires.whole (omega arith) (omega arith) c.requires.row c.place.ensures.place c.mask.ensures c.loop-x.invariant

pub returns : goal.returns
returns c =
    let e : c.loop-x.x ≡ c.args.right = omega arith in
    subst (λ x. WritesMasks c.args.self.now c.args.left x c.args.y (c.args.y + 1) c.args.masks.now c.loop-x.masks) e c.loop-x.invariant
