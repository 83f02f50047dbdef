use Rattle.std.proofs.Common.{rules}
use Rattle.pathdb.proofs.Sizes.{sizes_more}
use Rattle.pathdb.proofs.parts.put_sizes.Goals as goal

pub loop-number-preserved : goal.loop-number-preserved
loop-number-preserved c =
    sizes_more _ c.loop-number.sizes _ c.loop-number.number _ c.size_of.result c.loop-number.invariant (search rules) c.size_of.ensures (search rules)
