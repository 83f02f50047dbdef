use Rattle.std.proofs.Common.{◌%◌, get_or, subst, ap, ◌∙◌, arith, rules}
use Rattle.std.proofs.lemmas.Bool.{iff_false}
use Rattle.row_store.specs.Rows.{row_at}
use Rattle.run_pack.specs.Sets.{IsLeastIn}
use Rattle.row_check.proofs.Tightening.{loose_last, taken, word_move}
use Rattle.row_check.proofs.joining.join.Goals as goal
use Rattle.row_check.proofs.joining.join.Goals.{else-target-len-via-then-target-len+else-not-has_least, else-target-len-via-else-target-len}

pub returns-then-not-has_least-clause-loose : goal.returns-then-not-has_least-clause-loose
returns-then-not-has_least-clause-loose c =
    loose_last _ _ _ _ _ _ c.requires.run c.requires.over c.in_ok-now.now ((get_or c.row.result.now c.from.result 0) % 8) c.in_ok-now.ensures.byte c.in_ok-now.ensures.added
    (omega (arith, c.if-target-len.true, c.len.ensures))
    (ap (λ j. get_or c.row.result.now j 0 % 8) c.from.ensures ∙ word_move c.row.result.now (row_at c.args.rows.now c.args.source) c.args.cursor.run c.row.ensures.row c.requires.run.within)
    (iff_false c.has_least.ensures c.if-not-has_least.true)

pub returns-clause-taken : goal.returns-clause-taken
returns-clause-taken c =
    taken _ _ _ _ _ _ c.requires.run c.requires.over c.in_ok-now.now c.in_ok-now.ensures.added
    (λ last. elim c.else-target-len.branch [
      | else-target-len-via-then-target-len+else-not-has_least w ↦
          subst (IsLeastIn c.in_ok-now.now)
          (ap (λ j. get_or w.row.result.now j 0 % 8) w.from.ensures ∙ word_move w.row.result.now (row_at c.args.rows.now c.args.source) c.args.cursor.run w.row.ensures.row c.requires.run.within)
          (w.has_least.ensures.0 (search rules))
      | else-target-len-via-else-target-len w ↦ absurd (omega (arith, last, w.if-target-len.false, c.len.ensures))
    ])
