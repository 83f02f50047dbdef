-- The moves with lower numbers were asked, and the bits of those among them that lead to cells of its class are set.
use Rattle.moves.specs.MoveMasks.{HasFree}
use Rattle.moves.proofs.Masks.{MaskBelow}
use Rattle.moves.proofs.landscape.Landscape.free_mask.Given as goal

abbrev pub invariant-loop-number : goal.invariant-loop-number
invariant-loop-number l = MaskBelow (HasFree l.self l.cell) l.number l.mask
