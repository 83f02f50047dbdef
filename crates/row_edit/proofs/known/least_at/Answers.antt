use Rattle.run_pack.proofs.SetLemmas.{none_in_empty}
use Rattle.row_edit.proofs.known.least_at.Goals as goal

pub returns-in-None : goal.returns-in-None
returns-in-None c sets all move has = absurd (none_in_empty move has)
