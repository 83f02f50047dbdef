use Rattle.std.proofs.Common.{◌+◌, length, arith, sym, ap, ◌∙◌}
use Rattle.std.proofs.lemmas.List.{take_rest, drop_all}
use Rattle.text_lines.specs.Lines.{last_line}
use Rattle.text_lines.proofs.LineLemmas.{lines_cut, lines_last, one_line_whole, no_last_line, one_last_line, no_lines}
use Rattle.text_lines.proofs.lines.cut_line.Goals as goal

pub returns-in-Some-clause-cut : goal.returns-in-Some-clause-cut
returns-in-Some-clause-cut c =
    rw (take_rest c.args.text.now (c.in-Some.end + 1), c.without_return.ensures.line) (lines_cut c.args.text.now c.in-Some.end c.in-Some.ensures.0 c.in-Some.ensures.1)

pub returns-then-is_empty-clause-cut : goal.returns-then-is_empty-clause-cut
returns-then-is_empty-clause-cut c =
    let whole = lines_last c.args.text.now (one_line_whole c.args.text.now c.in-None.ensures) in
    whole ∙ sym (ap last_line c.without_return-line.ensures.line) ∙ no_last_line c.without_return-line.result.now (sym c.is_empty.ensures ∙ c.if-is_empty.true)

pub returns-else-is_empty-clause-cut : goal.returns-else-is_empty-clause-cut
returns-else-is_empty-clause-cut c =
    let text = c.args.text.now in
    let whole = lines_last text (one_line_whole text c.in-None.ensures) in
    let one = whole ∙ sym (ap last_line c.without_return-line.ensures.line) ∙ one_last_line c.without_return-line.result.now (sym c.is_empty.ensures ∙ c.if-is_empty.false) in
    rw (take_rest text (length text), drop_all (length text) text (omega arith), no_lines) one
