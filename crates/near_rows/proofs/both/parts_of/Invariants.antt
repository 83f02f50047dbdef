use Rattle.std.proofs.Common.{map}
use Rattle.std.specs.Arc.{arc_value}
use Rattle.near_rows.proofs.BothBuilt.{AreBuilt}
use Rattle.near_rows.proofs.both.parts_of.Given as goal

abbrev pub invariant-loop-label : goal.invariant-loop-label
invariant-loop-label g l = AreBuilt l.grid l.kind l.labels (map arc_value l.comps.items) l.nearby.items l.label
