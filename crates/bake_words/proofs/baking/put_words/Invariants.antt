use Rattle.std.proofs.Common.{length}
use Rattle.bake_words.proofs.Bytes.{ArePut}
use Rattle.bake_words.proofs.baking.put_words.Given as goal

abbrev pub invariant-loop-place : goal.invariant-loop-place
invariant-loop-place l = ArePut l.bytes l.room l.place (length l.fn.room)
