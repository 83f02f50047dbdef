use Rattle.std.proofs.Common.{rules}
use Rattle.kept_rows.proofs.GateLoops.{all_more, all_all}
use Rattle.kept_rows.proofs.gates.are_kept.Goals as goal

pub is_kept-requires-clause-repeated : goal.is_kept-requires-clause-repeated
is_kept-requires-clause-repeated c = c.requires.repeated _ _ (search rules)

pub loop-class-preserved : goal.loop-class-preserved
loop-class-preserved c = all_more _ _ _ _ (search rules) c.loop-class.invariant (c.is_kept.ensures c.if-not-is_kept.false)

pub returns : goal.returns
returns c = λ _. all_all _ _ _ c.loop-class.invariant (search rules)
