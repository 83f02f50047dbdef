-- The moves with lower numbers were asked, and the bits of the legal ones among them are set.
use Rattle.moves.specs.Moves.{HasLegal}
use Rattle.moves.proofs.Masks.{MaskBelow}
use Rattle.moves.proofs.landscape.Landscape.mask.Given as goal

abbrev pub invariant-loop-number : goal.invariant-loop-number
invariant-loop-number l = MaskBelow (HasLegal l.self l.fn.cell) l.number l.mask
