use Rattle.scen_run.proofs.Making.{IsMadeTo}
use Rattle.scen_run.proofs.made.made_map.Given as goal

abbrev pub invariant-loop-place : goal.invariant-loop-place
invariant-loop-place l = IsMadeTo l.width l.seed l.place l.free l.cells.items
