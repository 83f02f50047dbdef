use Rattle.run_pack.proofs.SetLemmas.{Has-and}
use Rattle.row_edit.proofs.masks.both.Goals as goal

pub returns : goal.returns
returns c move has has' = Has-and _ _ move has has'
