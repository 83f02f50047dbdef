use Rattle.map_read.proofs.WritingLemmas.{IsWrittenTo}
use Rattle.map_read.proofs.writing.write_map.Given as goal

abbrev pub invariant-loop-y : goal.invariant-loop-y
invariant-loop-y l = IsWrittenTo l.grid l.text.items l.y
