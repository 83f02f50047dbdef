use Rattle.std.proofs.lemmas.Bool.{eqb-true}
use Rattle.row_edit.proofs.Bits.{IsWithin-and}
use Rattle.row_edit.proofs.masks.is_within.Goals as goal

pub returns : goal.returns
returns c same = IsWithin-and _ _ (eqb-true _ _ same)
