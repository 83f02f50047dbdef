use Rattle.std.proofs.Common.{[], ap, length, refl, arith}
use Rattle.path_file.specs.Files.{row_bytes}
use Rattle.path_file.proofs.PutLemmas.{each_more, each_refused, on_err}
use Rattle.path_file.proofs.exporting.put_rows.Goals as goal

pub returns-in_err-put_row-clause-prefix : goal.returns-in_err-put_row-clause-prefix
returns-in_err-put_row-clause-prefix g c =
    on_err _ _ (each_refused row_bytes c.args.comp.now.rows [] _ _ _ c.args.buffer.now c.loop-source.buffer c.loop-source.source c.loop-source.invariant.written (omega (arith, c.loop-source-test.true, c.cells.ensures.whole.rows.whole, ap length c.cells.ensures.cells))
    _ refl c.in_err-put_row.ensures.prefix)

pub loop-source-preserved : goal.loop-source-preserved
loop-source-preserved g c = record {
  written = each_more row_bytes c.args.comp.now.rows [] _ _ _ c.args.buffer.now c.loop-source.buffer c.loop-source.source c.loop-source.invariant.written (omega (arith, c.loop-source-test.true, c.cells.ensures.whole.rows.whole, ap length c.cells.ensures.cells))
      _ _ refl c.in_ok-put_row.ensures.put;
  later = omega (arith, c.loop-source.invariant.later, c.in_ok-put_row.ensures.later);
}
