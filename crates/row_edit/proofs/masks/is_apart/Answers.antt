use Rattle.std.proofs.lemmas.Bool.{eqb-true}
use Rattle.run_pack.proofs.SetLemmas.{ShareNone-from_and}
use Rattle.row_edit.proofs.masks.is_apart.Goals as goal

pub returns : goal.returns
returns c none = ShareNone-from_and _ _ (eqb-true _ _ none)
