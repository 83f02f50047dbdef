use Rattle.components.proofs.Adopting.{IsAdopting}
use Rattle.components.proofs.flood.Flood.adopt.Given as goal

abbrev pub invariant-loop-cell : goal.invariant-loop-cell
invariant-loop-cell l = IsAdopting l.grid l.label l.fn.root l.fn.self l.component l.cell-index l.self
