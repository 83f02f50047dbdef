use Rattle.std.proofs.Common.{subst, arith, slice_index}
use Rattle.row_store.specs.Rows.{row_at}
use Rattle.row_check.specs.Following.{cursor_of}
use Rattle.row_check.specs.Joining.{IsTaken, IsFoundLoose}
use Rattle.row_check.proofs.Tightening.{taken_more, first_loose}
use Rattle.row_check.proofs.joining.join_sets.Goals as goal

pub returns-in-None-clause-loose : goal.returns-in-None-clause-loose
returns-in-None-clause-loose c =
    first_loose _ _ _ _ _ _ _ c.loop-source.invariant c.loop-source-test.true
    (subst (λ n. IsFoundLoose (row_at c.args.rows.now c.loop-source.source) n c.args.target (cursor_of c.args.cursors.now c.loop-source.source) (slice_index c.loop-source.common c.loop-source.source)
    (slice_index c.args.sets.now c.loop-source.source)) c.requires.rows c.in-None.ensures.loose)

pub loop-source-preserved : goal.loop-source-preserved
loop-source-preserved c =
    taken_more _ _ _ _ _ _ _ _ c.loop-source.invariant (omega (arith, c.requires.common, c.loop-source-test.true))
    (subst (λ n. IsTaken (row_at c.args.rows.now c.loop-source.source) n c.args.target (cursor_of c.args.cursors.now c.loop-source.source) (slice_index c.loop-source.common c.loop-source.source)
    (slice_index c.args.sets.now c.loop-source.source) c.in-Some.now) c.requires.rows c.in-Some.ensures.taken)
