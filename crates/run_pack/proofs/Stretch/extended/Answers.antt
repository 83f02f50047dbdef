use Rattle.run_pack.proofs.SetLemmas.{ShareNone-from_and, IsShared-and}
use Rattle.run_pack.proofs.Stretch.extended.Goals as goal

pub returns-then-common-eq0-clause-none : goal.returns-then-common-eq0-clause-none
returns-then-common-eq0-clause-none c = ShareNone-from_and _ _ c.if-common-eq0.true

pub returns-clause-common : goal.returns-clause-common
returns-clause-common c = IsShared-and _ _
