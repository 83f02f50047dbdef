-- One number more was asked, and at the end all were.
use Rattle.std.proofs.Common.{sym, ◌∙◌}
use Rattle.std.proofs.lemmas.Bool.{false≢true}
use Rattle.moves.specs.Moves.{HasLegal}
use Rattle.moves.proofs.Masks.{mask_none, mask_yes, mask_no, mask_done, legal_among}
use Rattle.moves.proofs.landscape.Landscape.mask.Goals as goal
use Rattle.moves.proofs.landscape.Landscape.mask.Goals.{then-is_legal_among, else-is_legal_among}

pub loop-number-init : goal.loop-number-init
loop-number-init c = mask_none _

pub loop-number-preserved : goal.loop-number-preserved
loop-number-preserved c =
    let P = HasLegal c.args.self.now c.args.cell in
    let among = legal_among c.args.self.now c.args.cell _ (c.passable.ensures.0 c.if-not-passable.false) c.free_mask-around.ensures in
    elim c.if-is_legal_among.branch [
      | then-is_legal_among w ↦
          rw w.mask-is (mask_yes P _ _ c.loop-number-test.true c.loop-number.invariant
          (λ move e. (among move).0 ((c.is_legal_among.ensures move e).0 w.if-is_legal_among.true)))
      | else-is_legal_among w ↦
          rw w.mask-is (mask_no P _ _ c.loop-number.invariant
          (λ move e has. absurd (false≢true (sym w.if-is_legal_among.false ∙ (c.is_legal_among.ensures move e).1 ((among move).1 has)))))
    ]

pub returns : goal.returns
returns c = mask_done (HasLegal c.args.self.now c.args.cell) _ _ c.loop-number-test.false c.loop-number.auto.number-end c.loop-number.invariant
