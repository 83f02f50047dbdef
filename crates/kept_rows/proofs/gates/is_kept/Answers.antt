use Rattle.std.proofs.Common.{rules}
use Rattle.kept_rows.proofs.GateLoops.{kept_if_one}
use Rattle.kept_rows.proofs.gates.is_kept.Goals as goal

pub returns : goal.returns
returns c = λ same. kept_if_one _ _ c.args.class.now _ _ c.by_least.ensures c.by_least-2.ensures (search rules)
