use Rattle.std.proofs.Common.{◌≡◌, ◌-◌, ◌%◌, get_or, ap, ◌∙◌, arith, rules}
use Rattle.std.proofs.lemmas.Bool.{iff_false}
use Rattle.row_store.specs.Rows.{row_at}
use Rattle.row_check.proofs.Tightening.{added_going, some_run, loose_going_on, loose_not_least, added_starting, word_move}
use Rattle.row_check.proofs.joining.add.Goals as goal
use Rattle.row_check.proofs.joining.add.Goals.{then-target-eq0-via-then-target-eq0, then-target-eq0-via-else-target-eq0+then-from-target}

pub returns-then-target-eq0-clause-added : goal.returns-then-target-eq0-clause-added
returns-then-target-eq0-clause-added c =
    added_going _ _ _ _ _ _ c.requires.run c.requires.over (λ some. elim c.then-target-eq0.branch [
      | then-target-eq0-via-then-target-eq0 w ↦ λ same. (let z = w.if-target-eq0.true in absurd (omega arith))
      | then-target-eq0-via-else-target-eq0+then-from-target w ↦ λ same. absurd (omega (arith, w.if-from-target.true, w.from.ensures, same))
    ])

pub returns-then-common-set-ne0-clause-loose : goal.returns-then-common-set-ne0-clause-loose
returns-then-common-set-ne0-clause-loose c =
    loose_going_on _ _ _ _ _ _ c.requires.run c.requires.over (omega (arith, c.if-target-eq0.false)) (omega (arith, c.if-from-target.false, c.from.ensures))
    (omega (arith, c.ranges.common.fits)) (omega (arith, c.ranges.set.fits)) c.if-common-set-ne0.true

pub overflow_sub-from : goal.overflow_sub-from
overflow_sub-from c =
    let some = some_run _ _ _ _ c.args.common c.args.set c.requires.run c.requires.over (omega (arith, c.if-target-eq0.false)) (omega (arith, c.if-from-target.false, c.from.ensures)) in
    omega (arith, some, c.from-2.ensures)

pub returns-then-not-has_least-clause-loose : goal.returns-then-not-has_least-clause-loose
returns-then-not-has_least-clause-loose c =
    loose_not_least _ _ _ _ _ _ c.requires.run c.requires.over (omega (arith, c.if-target-eq0.false)) (omega (arith, c.if-from-target.false, c.from.ensures))
    (omega (arith, c.ranges.common.fits)) ((get_or c.row.result.now (c.from-2.result - 1) 0) % 8)
    (λ k is.
    let w = c.requires.run.within in
    let at : c.from-2.result - 1 ≡ k = omega (arith, is, c.from-2.ensures) in
    ap (λ j. get_or c.row.result.now j 0 % 8) at ∙ word_move c.row.result.now (row_at c.args.rows.now c.args.source) k c.row.ensures.row (omega (arith, w, is)))
    (iff_false c.has_least.ensures c.if-not-has_least.true)

pub returns-clause-added : goal.returns-clause-added
returns-clause-added c =
    added_starting _ _ _ _ _ _ c.requires.run c.requires.over (omega (arith, c.if-target-eq0.false)) (omega (arith, c.if-from-target.false, c.from.ensures))
    c.if-common-set-ne0.false ((get_or c.row.result.now (c.from-2.result - 1) 0) % 8)
    (λ k is.
    let w = c.requires.run.within in
    let at : c.from-2.result - 1 ≡ k = omega (arith, is, c.from-2.ensures) in
    ap (λ j. get_or c.row.result.now j 0 % 8) at ∙ word_move c.row.result.now (row_at c.args.rows.now c.args.source) k c.row.ensures.row (omega (arith, w, is)))
    (c.has_least.ensures.0 (search rules))
