use Rattle.std.proofs.Common.{sym, ◌∙◌, ◌<◌, ◌≤◌, arith}
use Rattle.text_lines.proofs.NumberLemmas.{no_number_at_most, number_above, number_within}
use Rattle.text_lines.proofs.numbers.number_at_most.Goals as goal

pub returns-in_err-number-clause-number : goal.returns-in_err-number-clause-number
returns-in_err-number-clause-number c = c.from_residual.ensures ∙ sym (no_number_at_most c.args.most c.args.word.now c.in_err-number.ensures)

pub returns-then-number-from-clause-number : goal.returns-then-number-from-clause-number
returns-then-number-from-clause-number c =
    let above : c.args.most < c.in_ok-number.number = omega arith in
    sym (number_above c.args.most c.in_ok-number.number c.args.word.now c.in_ok-number.ensures above)

pub returns-clause-number : goal.returns-clause-number
returns-clause-number c =
    let within : c.in_ok-number.number ≤ c.args.most = omega arith in
    sym (number_within c.args.most c.in_ok-number.number c.args.word.now c.in_ok-number.ensures within)
