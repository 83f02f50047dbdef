use Rattle.components.proofs.Pushing.{IsPushing}
use Rattle.components.proofs.edits.push_passable.Given as goal

abbrev pub invariant-loop-cell : goal.invariant-loop-cell
invariant-loop-cell l = IsPushing l.grid l.cells l.cell-index l.fn.ranks.items l.ranks.items
