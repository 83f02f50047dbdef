use Rattle.std.proofs.Common.{length}
use Rattle.pathdb.proofs.Sizes.{AreSizes}
use Rattle.pathdb.proofs.parts.put_sizes.Given as goal

abbrev pub invariant-loop-number : goal.invariant-loop-number
invariant-loop-number l = AreSizes l.bake l.sizes l.number (length l.fn.sizes)
