-- One number more was asked, and at the end all were.
use Rattle.std.proofs.Common.{sym, ◌∙◌}
use Rattle.std.proofs.lemmas.Bool.{false≢true}
use Rattle.moves.specs.MoveMasks.{HasFree}
use Rattle.moves.proofs.Masks.{mask_none, mask_yes, mask_no, mask_done}
use Rattle.moves.proofs.landscape.Landscape.free_mask.Goals as goal
use Rattle.moves.proofs.landscape.Landscape.free_mask.Goals.{then-is_free, else-is_free}

pub loop-number-init : goal.loop-number-init
loop-number-init c = mask_none _

pub loop-number-preserved : goal.loop-number-preserved
loop-number-preserved c =
    let P = HasFree c.args.self.now c.args.cell in
    elim c.if-is_free.branch [
      | then-is_free w ↦
          rw w.mask-is (mask_yes P _ _ c.loop-number-test.true c.loop-number.invariant (λ move e. (c.is_free.ensures move e).0 w.if-is_free.true))
      | else-is_free w ↦
          rw w.mask-is (mask_no P _ _ c.loop-number.invariant (λ move e has. absurd (false≢true (sym w.if-is_free.false ∙ (c.is_free.ensures move e).1 has))))
    ]

pub returns : goal.returns
returns c = mask_done (HasFree c.args.self.now c.args.cell) _ _ c.loop-number-test.false c.loop-number.auto.number-end c.loop-number.invariant
