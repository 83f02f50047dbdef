use Rattle.path_commands.proofs.NearTelling.{sizes_written}
use Rattle.path_commands.proofs.near.push_near.Goals as goal

pub returns : goal.returns
returns c = sizes_written _ _ _ _ _ _ _ c.runs.ensures c.widest.ensures c.from.ensures c.in_ok-push_number.ensures c.in_ok-push_number-2.ensures
