use Rattle.row_store.proofs.CompLaws.{few_runs}
use Rattle.row_store.proofs.CompData.runs.Goals as goal

pub returns-clause-limit : goal.returns-clause-limit
returns-clause-limit c = rw c.runs.ensures (few_runs _ c.self.invariant.0)
