use Rattle.std.proofs.Common.{◌∷◌, [], length, subst, arith}
use Rattle.path_image.specs.Images.{table_start}
use Rattle.path_image.specs.Writing.{Puts}
use Rattle.path_image.proofs.Putting.{puts_next, some_next, on_err}
use Rattle.path_image.proofs.writing.put_starts.Goals as goal

pub loop-label-preserved : goal.loop-label-preserved
loop-label-preserved g c = record {
  put = puts_next (table_start c.args.version.now) c.loop-label.label
      (g.S.Sink.bytes c.args.sink.now) (g.S.Sink.bytes c.loop-label.sink) (g.S.Sink.bytes c.put.new.sink) c.args.piece.now c.loop-label.piece c.put.new.self
      c.loop-label.invariant.put
      (subst (λ w. Puts (g.S.Sink.bytes c.loop-label.sink) c.loop-label.piece (g.S.Sink.bytes c.put.new.sink) c.put.new.self (w ∷ [])) c.loop-label.invariant.start c.in_ok-put.ensures.put);
  later = omega (arith, c.loop-label.invariant.later, c.in_ok-put.ensures.later);
  start = c.next_start-start.ensures;
}

pub returns-in_err-put-clause-prefix : goal.returns-in_err-put-clause-prefix
returns-in_err-put-clause-prefix g c =
    on_err _ _ (some_next (table_start c.args.version.now) c.loop-label.label (length c.args.version.now.comps) _ (omega (arith, c.loop-label-test.true, c.totals-label-end.ensures.comps))
    c.loop-label.invariant.start _ _ _ c.args.piece.now c.loop-label.piece c.loop-label.invariant.put c.in_err-put.ensures.prefix)
