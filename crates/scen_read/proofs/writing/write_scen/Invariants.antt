use Rattle.scen_read.proofs.WritingLemmas.{IsWrittenTo}
use Rattle.scen_read.proofs.writing.write_scen.Given as goal

abbrev pub invariant-loop-line : goal.invariant-loop-line
invariant-loop-line l = IsWrittenTo l.lines l.text.items l.line-index
