use Rattle.near_rows.proofs.Fewest.{all_few}
use Rattle.near_rows.proofs.near_version.NearVersion.of.Goals as goal

pub runs_of-runs-requires-clause-each : goal.runs_of-runs-requires-clause-each
runs_of-runs-requires-clause-each c = rw c.deref.ensures.value (all_few _ c.requires.near)
