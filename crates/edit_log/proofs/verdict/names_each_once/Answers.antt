use Rattle.edit_log.proofs.EditVerdicts.{found_twice, one_more_apart}
use Rattle.edit_log.proofs.verdict.names_each_once.Goals as goal

pub returns-then-not-is_new : goal.returns-then-not-is_new
returns-then-not-is_new c = found_twice _ _ _ _ c.loop-place-test.true c.is_new.ensures c.if-not-is_new.true

pub loop-place-preserved : goal.loop-place-preserved
loop-place-preserved c = one_more_apart _ _ _ c.loop-place.invariant c.loop-place-test.true (c.is_new.ensures.0 c.if-not-is_new.false)
