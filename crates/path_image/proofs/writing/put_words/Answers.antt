use Rattle.std.proofs.Common.{refl, arith}
use Rattle.path_image.proofs.Putting.{puts_taken, some_taken, on_err}
use Rattle.path_image.proofs.writing.put_words.Goals as goal

pub returns-in_err-put-clause-prefix : goal.returns-in_err-put-clause-prefix
returns-in_err-put-clause-prefix g c =
    on_err _ _ (some_taken c.args.words.now c.loop-word.word-index _ (omega arith) refl _ _ _ c.args.piece.now c.loop-word.piece c.loop-word.invariant.put c.in_err-put.ensures.prefix)

pub loop-word-preserved : goal.loop-word-preserved
loop-word-preserved g c = record {
  put = puts_taken c.args.words.now c.loop-word.word-index _ (omega arith) refl _ _ _ c.args.piece.now c.loop-word.piece c.put.new.self c.loop-word.invariant.put c.in_ok-put.ensures.put;
  later = omega (arith, c.loop-word.invariant.later, c.in_ok-put.ensures.later);
}
