use Rattle.std.proofs.Common.{refl}
use Rattle.text_lines.proofs.WordLemmas.{no_words_of_gaps, words_from}
use Rattle.text_lines.proofs.words.cut_word.Goals as goal

pub returns-in_err-start : goal.returns-in_err-start
returns-in_err-start c = rw c.from_residual.ensures (no_words_of_gaps c.args.line.now c.in_err-start.ensures)

pub returns : goal.returns
returns c =
    let at = c.in_ok-start.ensures in
    words_from c.args.line.now _ c.in_ok-start.start c.unwrap_or-end.result c.first_gap.result refl at.0 at.1 at.2 c.first_gap.ensures c.unwrap_or-end.ensures
