use Rattle.std.proofs.Common.{sym, ap, ◌∙◌}
use Rattle.std.proofs.lemmas.List.{take_rest}
use Rattle.text_lines.specs.Words.{without_gaps_at_end}
use Rattle.text_lines.proofs.WordLemmas.{start_skipped, start_of_gaps, nothing_of_nothing}
use Rattle.text_lines.proofs.words.without_gaps.Goals as goal

pub returns-in-Some : goal.returns-in-Some
returns-in-Some c =
    let at = c.in-Some.ensures in
    let line = c.args.line.now in
    let start = start_skipped line c.in-Some.first at.2 at.0 at.1 in
    c.without_gaps_at_end.ensures.line ∙ ap without_gaps_at_end (take_rest line c.in-Some.first ∙ sym start)

pub returns-in-None : goal.returns-in-None
returns-in-None c = sym (ap without_gaps_at_end (start_of_gaps c.args.line.now c.in-None.ensures) ∙ nothing_of_nothing)
