use Rattle.std.proofs.Common.{◌≤◌, length, ℕ, Some, ap, ◌∙◌, arith}
use Rattle.scen_read.proofs.LengthLemmas.{few_digits}
use Rattle.scen_read.proofs.length.whole_in.Goals as goal

pub returns-in_err-number_at_most-clause-whole : goal.returns-in_err-number_at_most-clause-whole
returns-in_err-number_at_most-clause-whole c =
    let few : length c.args.digits.now ≤ 7 = omega arith in
    c.from_residual.ensures ∙ c.in_err-number_at_most.ensures.number ∙ few_digits c.args.digits.now few

pub returns-clause-whole : goal.returns-clause-whole
returns-clause-whole c =
    let few : length c.args.digits.now ≤ 7 = omega arith in
    ap (λ (n : ℕ). Some n) c.from.ensures ∙ c.in_ok-number_at_most.ensures.number ∙ few_digits c.args.digits.now few
