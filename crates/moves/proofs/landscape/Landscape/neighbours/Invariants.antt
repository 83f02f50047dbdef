-- The moves with lower numbers were asked, and the legal ones among them found.
use Rattle.moves.proofs.Finding.{FoundBelow}
use Rattle.moves.proofs.landscape.Landscape.neighbours.Given as goal

abbrev pub invariant-loop-number : goal.invariant-loop-number
invariant-loop-number l = FoundBelow l.self l.cell l.number l.found.items
