use Rattle.std.proofs.Common.{[], length, ap, arith}
use Rattle.path_image.specs.Images.{row_words}
use Rattle.path_image.proofs.Putting.{puts_piece, some_piece, on_err}
use Rattle.path_image.proofs.writing.put_rows.Goals as goal

pub returns-in_err-put_row-clause-prefix : goal.returns-in_err-put_row-clause-prefix
returns-in_err-put_row-clause-prefix g c =
    on_err _ _ (some_piece row_words c.args.comp.now.rows c.loop-place.place [] (omega (arith, c.loop-place-test.true, c.cells.ensures.whole.rows.whole, ap length c.cells.ensures.cells)) _ _ _
    c.args.piece.now c.loop-place.piece c.loop-place.invariant.put c.in_err-put_row.ensures.prefix)

pub loop-place-preserved : goal.loop-place-preserved
loop-place-preserved g c = record {
  put = puts_piece row_words c.args.comp.now.rows c.loop-place.place [] (omega (arith, c.loop-place-test.true, c.cells.ensures.whole.rows.whole, ap length c.cells.ensures.cells)) _ _ _
      c.args.piece.now c.loop-place.piece c.put_row.new.piece c.loop-place.invariant.put c.in_ok-put_row.ensures.put;
  later = omega (arith, c.loop-place.invariant.later, c.in_ok-put_row.ensures.later);
}
