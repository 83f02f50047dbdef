use Rattle.components.proofs.Regrowing.{IsRegrowing}
use Rattle.components.proofs.flood.Flood.regrow.Given as goal

abbrev pub invariant-loop-seed : goal.invariant-loop-seed
invariant-loop-seed l = IsRegrowing l.grid l.edit l.seed-index l.number l.self l.starts.items l.cells.items
