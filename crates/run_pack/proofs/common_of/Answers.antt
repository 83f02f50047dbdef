use Rattle.run_pack.proofs.SetLemmas.{AreShared-fold}
use Rattle.run_pack.proofs.common_of.Goals as goal

pub returns : goal.returns
returns c = AreShared-fold 255 c.args.sets
