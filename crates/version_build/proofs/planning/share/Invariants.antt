use Rattle.std.proofs.Common.{map}
use Rattle.std.specs.Arc.{arc_value}
use Rattle.std.specs.Option.{option_map}
use Rattle.version_build.proofs.Sharing.{IsSharing}
use Rattle.version_build.proofs.planning.share.Given as goal

abbrev pub invariant-loop-label : goal.invariant-loop-label
invariant-loop-label l = IsSharing l.former.order l.known l.labels (map (option_map arc_value) l.comps.items) l.kept l.label
