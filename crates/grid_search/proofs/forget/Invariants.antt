use Rattle.grid_search.proofs.Forgetting.{IsForgotten}
use Rattle.grid_search.proofs.forget.Given as goal

abbrev pub invariant-loop-cell : goal.invariant-loop-cell
invariant-loop-cell l = IsForgotten l.fn.width l.cells l.initial.keys l.keys l.cell-index
