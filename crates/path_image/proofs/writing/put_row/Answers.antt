use Rattle.std.proofs.Common.{arith}
use Rattle.std.proofs.lemmas.List.{length-map}
use Rattle.run_pack.specs.Runs.{word_of}
use Rattle.row_store.specs.Rows.{row_at}
use Rattle.path_image.specs.Images.{row_words}
use Rattle.path_image.proofs.Putting.{puts_taken, some_taken, on_err}
use Rattle.path_image.proofs.writing.put_row.Goals as goal

pub returns-in_err-put-clause-prefix : goal.returns-in_err-put-clause-prefix
returns-in_err-put-clause-prefix g c =
    let row = row_at c.args.comp.now.rows c.args.place in
    on_err _ _ (some_taken (row_words row) c.loop-run.run _ (omega (arith, length-map row word_of, c.loop-run-test.true, c.row_len-run-end.ensures)) c.run_word.ensures _ _ _
    c.args.piece.now c.loop-run.piece c.loop-run.invariant.put c.in_err-put.ensures.prefix)

pub loop-run-preserved : goal.loop-run-preserved
loop-run-preserved g c =
    let row = row_at c.args.comp.now.rows c.args.place in
    record {
      put = puts_taken (row_words row) c.loop-run.run _ (omega (arith, length-map row word_of, c.loop-run-test.true, c.row_len-run-end.ensures)) c.run_word.ensures _ _ _
          c.args.piece.now c.loop-run.piece c.put.new.self c.loop-run.invariant.put c.in_ok-put.ensures.put;
      later = omega (arith, c.loop-run.invariant.later, c.in_ok-put.ensures.later);
    }
