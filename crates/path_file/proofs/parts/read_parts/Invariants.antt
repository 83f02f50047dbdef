use Rattle.path_file.proofs.PartReading.{ArePartsTo}
use Rattle.path_file.proofs.parts.read_parts.Given as goal

abbrev pub invariant-loop-label : goal.invariant-loop-label
invariant-loop-label l = ArePartsTo l.fn.reader l.reader l.order l.labels l.parts.items l.label
