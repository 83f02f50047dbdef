use Rattle.std.proofs.Common.{rules}
use Rattle.kept_rows.proofs.GateLoops.{all_more, all_all}
use Rattle.kept_rows.proofs.classes.are_repeated.Goals as goal

pub loop-class-preserved : goal.loop-class-preserved
loop-class-preserved c = all_more _ _ _ _ (search rules) c.loop-class.invariant (c.is_repeated.ensures c.if-not-is_repeated.false)

pub returns : goal.returns
returns c = λ _. all_all _ _ _ c.loop-class.invariant (search rules)
