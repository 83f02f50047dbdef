use Rattle.std.proofs.Common.{add-one, sym}
use Rattle.text_lines.proofs.WordLemmas.{nothing_left, left_to_last}
use Rattle.text_lines.proofs.words.without_gaps_at_end.Goals as goal

pub returns-in-Some-clause-line : goal.returns-in-Some-clause-line
returns-in-Some-clause-line c = rw add-one (sym (left_to_last c.args.line.now c.in-Some.last c.in-Some.ensures.0 c.in-Some.ensures.1 c.in-Some.ensures.2))

pub returns-in-None-clause-line : goal.returns-in-None-clause-line
returns-in-None-clause-line c = sym (nothing_left c.args.line.now c.in-None.ensures)
