use Rattle.std.proofs.Common.{rules}
use Rattle.bake_words.proofs.Bytes.{put_more}
use Rattle.bake_words.proofs.baking.put_words.Goals as goal

pub loop-place-preserved : goal.loop-place-preserved
loop-place-preserved c = put_more c.args.bytes.now c.loop-place.room _ c.loop-place.place _ c.word_at.result c.loop-place.invariant (search rules) c.word_at.ensures (search rules)
