use Rattle.std.proofs.Common.{drop, length}
use Rattle.text_lines.specs.Lines.{lines_of}
use Rattle.scen_read.proofs.TextLemmas.{AreReadTo}
use Rattle.scen_read.proofs.read_scen.Given as goal

abbrev pub invariant-loop-line : goal.invariant-loop-line
invariant-loop-line l = AreReadTo (drop 1 (lines_of l.bytes)) l.number l.scenarios.items l.lines

abbrev pub decreases-loop-line : goal.decreases-loop-line
decreases-loop-line l = length l.lines
