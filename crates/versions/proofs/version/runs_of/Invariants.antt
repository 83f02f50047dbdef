use Rattle.std.proofs.Common.{◌≡◌, ◌*◌, ◌≤◌, take, map}
use Rattle.std.specs.Arc.{arc_value}
use Rattle.versions.specs.Databases.{runs_of}
use Rattle.versions.proofs.version.runs_of.Given as goal

abbrev pub invariant-loop-comp : goal.invariant-loop-comp
invariant-loop-comp l = (l.runs ≡ runs_of (take l.comp-index (map arc_value l.comps))) × (l.runs ≤ l.comp-index * 1073741824)
