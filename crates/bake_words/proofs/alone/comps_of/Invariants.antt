use Rattle.std.specs.Arc.{arc_value}
use Rattle.bake_words.proofs.Building.{AreBuilt}
use Rattle.bake_words.proofs.alone.comps_of.Given as goal

abbrev pub invariant-loop-label : goal.invariant-loop-label
invariant-loop-label l = AreBuilt arc_value l.kind l.labels l.comps.items l.label
