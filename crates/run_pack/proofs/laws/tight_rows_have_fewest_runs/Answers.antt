use Rattle.run_pack.proofs.Fewest.{HasFewest-from_tight}
use Rattle.run_pack.proofs.laws.tight_rows_have_fewest_runs.Goals as goal

pub returns : goal.returns
returns c = HasFewest-from_tight
