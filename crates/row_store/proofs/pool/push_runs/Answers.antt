use Rattle.std.proofs.Math.Seq.{take-append_seam}
use Rattle.row_store.proofs.pool.push_runs.Goals as goal

pub returns-in_err-push-clause-kept : goal.returns-in_err-push-clause-kept
returns-in_err-push-clause-kept c = rw (c.in_err-push.ensures.items, c.loop-run.invariant) (take-append_seam _ _)
