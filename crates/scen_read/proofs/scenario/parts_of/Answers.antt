use Rattle.std.proofs.Common.{ℕ, List, length, ap, ◌∙◌}
use Rattle.std.proofs.lemmas.Result.{err_from_is_err_and}
use Rattle.scen_read.specs.Fields.{fields_in, fields_of}
use Rattle.scen_read.proofs.ScenarioLemmas.{other_count, bucket_refused, width_refused, height_refused, start_refused, goal_refused, length_refused, all_read}
use Rattle.scen_read.proofs.scenario.parts_of.Goals as goal

pub returns-then-found-ne-FIELDS : goal.returns-then-found-ne-FIELDS
returns-then-found-ne-FIELDS c =
    let fields = ap fields_in c.without_gaps_at_end-text.ensures.line in
    let found = c.count_fields-found.ensures ∙ ap (λ (fs : List (List ℕ)). length fs) fields in
    other_count c.args.line (fields_of c.args.text.now) c.count_fields-found.result found c.if-found-ne-FIELDS.true

pub returns-in_err-bucket : goal.returns-in_err-bucket
returns-in_err-bucket c =
    let p = err_from_is_err_and c.from_residual.result c.from_residual.ensures.1 in
    rw (p.1, p.2) (bucket_refused _ _ _ _ _ c.without_gaps_at_end-text.ensures.line c.of-fields.ensures c.count_fields-found.ensures c.if-found-ne-FIELDS.false
    _ c.in_err-bucket.ensures.number)

pub returns-in_err-width : goal.returns-in_err-width
returns-in_err-width c =
    let p = err_from_is_err_and c.from_residual-in_err-width.result c.from_residual-in_err-width.ensures.1 in
    rw (p.1, p.2) (width_refused _ _ _ _ _ c.without_gaps_at_end-text.ensures.line c.of-fields.ensures c.count_fields-found.ensures c.if-found-ne-FIELDS.false
    _ _ _ c.in_ok-bucket.ensures.number c.number.ensures.rest c.next_or_empty-name.ensures.rest
    _ c.in_err-width.ensures.number)

pub returns-in_err-height : goal.returns-in_err-height
returns-in_err-height c =
    let p = err_from_is_err_and c.from_residual-in_err-height.result c.from_residual-in_err-height.ensures.1 in
    rw (p.1, p.2) (height_refused _ _ _ _ _ c.without_gaps_at_end-text.ensures.line c.of-fields.ensures c.count_fields-found.ensures c.if-found-ne-FIELDS.false
    _ _ _ c.in_ok-bucket.ensures.number c.number.ensures.rest c.next_or_empty-name.ensures.rest
    _ _ c.in_ok-width.ensures.number c.number-2.ensures.rest
    _ c.in_err-height.ensures.number)

pub returns-in_err-start : goal.returns-in_err-start
returns-in_err-start c =
    let p = err_from_is_err_and c.from_residual-in_err-start.result c.from_residual-in_err-start.ensures.1 in
    rw (p.1, p.2) (start_refused _ _ _ _ _ c.without_gaps_at_end-text.ensures.line c.of-fields.ensures c.count_fields-found.ensures c.if-found-ne-FIELDS.false
    _ _ _ c.in_ok-bucket.ensures.number c.number.ensures.rest c.next_or_empty-name.ensures.rest
    _ _ c.in_ok-width.ensures.number c.number-2.ensures.rest
    _ _ c.in_ok-height.ensures.number c.number-3.ensures.rest
    _ c.in_err-start.ensures.cell)

pub returns-in_err-goal : goal.returns-in_err-goal
returns-in_err-goal c =
    let p = err_from_is_err_and c.from_residual-in_err-goal.result c.from_residual-in_err-goal.ensures.1 in
    rw (p.1, p.2) (goal_refused _ _ _ _ _ c.without_gaps_at_end-text.ensures.line c.of-fields.ensures c.count_fields-found.ensures c.if-found-ne-FIELDS.false
    _ _ _ c.in_ok-bucket.ensures.number c.number.ensures.rest c.next_or_empty-name.ensures.rest
    _ _ c.in_ok-width.ensures.number c.number-2.ensures.rest
    _ _ c.in_ok-height.ensures.number c.number-3.ensures.rest
    _ _ c.in_ok-start.ensures.cell c.in_ok-start.ensures.rest
    _ c.in_err-goal.ensures.cell)

pub returns-in_err-nano : goal.returns-in_err-nano
returns-in_err-nano c =
    let p = err_from_is_err_and c.from_residual-in_err-nano.result c.from_residual-in_err-nano.ensures.1 in
    rw (p.1, p.2) (length_refused _ _ _ _ _ c.without_gaps_at_end-text.ensures.line c.of-fields.ensures c.count_fields-found.ensures c.if-found-ne-FIELDS.false
    _ _ _ c.in_ok-bucket.ensures.number c.number.ensures.rest c.next_or_empty-name.ensures.rest
    _ _ c.in_ok-width.ensures.number c.number-2.ensures.rest
    _ _ c.in_ok-height.ensures.number c.number-3.ensures.rest
    _ _ c.in_ok-start.ensures.cell c.in_ok-start.ensures.rest
    _ _ c.in_ok-goal.ensures.cell c.in_ok-goal.ensures.rest
    _ c.in_err-nano.ensures)

pub returns : goal.returns
returns c =
    all_read _ _ _ _ _ c.without_gaps_at_end-text.ensures.line c.of-fields.ensures c.count_fields-found.ensures c.if-found-ne-FIELDS.false
    _ _ _ c.in_ok-bucket.ensures.number c.number.ensures.rest c.next_or_empty-name.ensures.rest
    _ _ c.in_ok-width.ensures.number c.number-2.ensures.rest
    _ _ c.in_ok-height.ensures.number c.number-3.ensures.rest
    _ _ c.in_ok-start.ensures.cell c.in_ok-start.ensures.rest
    _ _ c.in_ok-goal.ensures.cell c.in_ok-goal.ensures.rest
    _ _ c.next_or_empty-name.ensures.field c.in_ok-nano.ensures
