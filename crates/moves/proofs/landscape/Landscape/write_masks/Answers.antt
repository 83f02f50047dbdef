-- One row more was written, and at the end all were.
use Rattle.std.proofs.Common.{◌≡◌, subst, arith}
use Rattle.moves.specs.MoveMasks.{WritesMasks}
use Rattle.moves.proofs.Landscapes.{writes_no_rows, writes_row}
use Rattle.moves.proofs.landscape.Landscape.write_masks.Goals as goal

pub loop-y-init : goal.loop-y-init
loop-y-init c = writes_no_rows _ _ _ _ _

pub loop-y-preserved : goal.loop-y-preserved
loop-y-preserved c =
    writes_row _ _ _ _ _ _ _ _ c.requires.columns.1 (omega arith) (omega arith) c.loop-y.invariant c.write_row.ensures

pub returns : goal.returns
returns c =
    let e : c.loop-y.y ≡ c.args.rows.end = omega arith in
    subst (λ y. WritesMasks c.args.self.now c.args.columns.start c.args.columns.end c.args.rows.start y c.args.masks.now c.loop-y.masks) e c.loop-y.invariant
