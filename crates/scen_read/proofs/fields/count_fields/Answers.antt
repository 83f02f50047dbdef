use Rattle.std.proofs.Common.{ℕ, List, length, ap, arith}
use Rattle.scen_read.proofs.FieldLemmas.{few_fields}
use Rattle.scen_read.proofs.fields.count_fields.Goals as goal

pub overflow_add-count : goal.overflow_add-count
overflow_add-count c =
    let left = ap (λ (fs : List (List ℕ)). length fs) c.in-Some.ensures.field in
    omega (arith, left, few_fields c.args.text.now, c.loop-field.invariant, c.requires)
