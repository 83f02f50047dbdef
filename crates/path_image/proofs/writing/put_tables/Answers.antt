use Rattle.std.proofs.Common.{subst, arith}
use Rattle.versions.specs.Databases.{no_comp}
use Rattle.path_image.specs.Images.{table_of}
use Rattle.path_image.specs.Writing.{Puts, PutsSome}
use Rattle.path_image.proofs.Putting.{puts_piece, some_piece, on_err}
use Rattle.path_image.proofs.writing.put_tables.Goals as goal

pub returns-in_err-put_table-clause-prefix : goal.returns-in_err-put_table-clause-prefix
returns-in_err-put_table-clause-prefix g c =
    on_err _ _ (some_piece table_of c.args.version.now.comps c.loop-label.label no_comp (omega (arith, c.loop-label-test.true, c.totals-label-end.ensures.comps)) _ _ _
    c.args.piece.now c.loop-label.piece c.loop-label.invariant.put
    (subst (λ comp. PutsSome (g.S.Sink.bytes c.loop-label.sink) c.loop-label.piece (g.S.Sink.bytes c.put_table.new.sink) (table_of comp)) c.comp_at.ensures c.in_err-put_table.ensures.prefix))

pub loop-label-preserved : goal.loop-label-preserved
loop-label-preserved g c = record {
  put = puts_piece table_of c.args.version.now.comps c.loop-label.label no_comp (omega (arith, c.loop-label-test.true, c.totals-label-end.ensures.comps)) _ _ _
      c.args.piece.now c.loop-label.piece c.put_table.new.piece c.loop-label.invariant.put
      (subst (λ comp. Puts (g.S.Sink.bytes c.loop-label.sink) c.loop-label.piece (g.S.Sink.bytes c.put_table.new.sink) c.put_table.new.piece (table_of comp)) c.comp_at.ensures c.in_ok-put_table.ensures.put);
  later = omega (arith, c.loop-label.invariant.later, c.in_ok-put_table.ensures.later);
}
