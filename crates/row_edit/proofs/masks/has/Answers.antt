use Rattle.std.proofs.lemmas.Bool.{eqb-true}
use Rattle.row_edit.proofs.Bits.{Has-tested}
use Rattle.row_edit.proofs.masks.has.Goals as goal

pub returns : goal.returns
returns c same = Has-tested _ _ (eqb-true _ _ same)
