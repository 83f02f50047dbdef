use Rattle.std.proofs.Common.{refl, arith}
use Rattle.row_check.specs.Following.{no_cursor}
use Rattle.row_check.proofs.Targets.{checked_none}
use Rattle.row_check.proofs.scratch.Scratch.new.Goals as goal

pub returns-clause-checked : goal.returns-clause-checked
returns-clause-checked c = λ map just.
    checked_none map c.args.cells.now c.args.rows.now _ _ _ (c.in_ok-vec-3.ensures.items_if_clones_equal (λ y e. e)) refl
    (λ source l. c.in_ok-cursors.ensures.first source no_cursor
    (omega (arith, c.in_ok-cursors.ensures.cursors.whole, c.deref.ensures.len, c.in_ok-near.near.ok.0, c.in_ok-near.ensures.whole, c.deref.ensures.value)))
