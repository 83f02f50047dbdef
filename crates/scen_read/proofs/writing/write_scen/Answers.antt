use Rattle.std.proofs.Common.{◌∙◌, ap}
use Rattle.scen_read.specs.ScenText.{scenarios_of}
use Rattle.scen_read.proofs.WritingLemmas.{written_all}
use Rattle.scen_read.proofs.WrittenLemmas.{written_reads_back}
use Rattle.scen_read.proofs.writing.write_scen.Goals as goal

pub returns-clause-text : goal.returns-clause-text
returns-clause-text c = written_all c.args.lines.now c.loop-line.text.items c.loop-line.line-index c.loop-line-test.false c.loop-line.invariant

pub returns-clause-back : goal.returns-clause-back
returns-clause-back c = λ writable.
    ap scenarios_of (written_all c.args.lines.now c.loop-line.text.items c.loop-line.line-index c.loop-line-test.false c.loop-line.invariant)
    ∙ written_reads_back c.args.lines.now writable
