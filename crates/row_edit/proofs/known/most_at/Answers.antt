use Rattle.run_pack.proofs.SetLemmas.{Has-all}
use Rattle.row_edit.proofs.known.most_at.Goals as goal

pub returns-in-None : goal.returns-in-None
returns-in-None c sets all move below has = Has-all move below
