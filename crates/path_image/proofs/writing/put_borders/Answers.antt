use Rattle.std.proofs.Common.{◌≡◌, ◌+◌, ◌∷◌, [], length, map, ap, subst, arith}
use Rattle.std.specs.List.{range_with_len}
use Rattle.path_image.specs.Images.{row_start}
use Rattle.path_image.specs.Writing.{Puts}
use Rattle.path_image.proofs.Putting.{puts_next, some_next, on_err, on_err_then, on_ok_then}
use Rattle.path_image.proofs.writing.put_borders.Goals as goal

pub loop-place-preserved : goal.loop-place-preserved
loop-place-preserved g c = record {
  put = puts_next (row_start c.args.comp.now.rows) c.loop-place.place (g.S.Sink.bytes c.args.sink.now) (g.S.Sink.bytes c.loop-place.sink) (g.S.Sink.bytes c.put.new.sink)
      c.args.piece.now c.loop-place.piece c.put.new.self c.loop-place.invariant.put
      (subst (λ w. Puts (g.S.Sink.bytes c.loop-place.sink) c.loop-place.piece (g.S.Sink.bytes c.put.new.sink) c.put.new.self (w ∷ [])) c.loop-place.invariant.border c.in_ok-put.ensures.put);
  later = omega (arith, c.loop-place.invariant.later, c.in_ok-put.ensures.later);
  border = c.next_border-border.ensures;
}

pub returns-clause-put : goal.returns-clause-put
returns-clause-put g c =
    let end = c.loop-place-test.false in
    let upto = c.loop-place.auto.place-end in
    let cells = ap length c.cells.ensures.cells in
    let all : c.loop-place.place ≡ length c.args.comp.now.cells = omega arith in
    on_ok_then c.put-2.result _ _
    (λ put. subst (λ n. Puts (g.S.Sink.bytes c.args.sink.now) c.args.piece.now (g.S.Sink.bytes c.put-2.new.sink) c.put-2.new.self
    (map (row_start c.args.comp.now.rows) (range_with_len 0 (n + 1)))) all
    (puts_next (row_start c.args.comp.now.rows) c.loop-place.place (g.S.Sink.bytes c.args.sink.now) (g.S.Sink.bytes c.loop-place.sink) (g.S.Sink.bytes c.put-2.new.sink)
    c.args.piece.now c.loop-place.piece c.put-2.new.self c.loop-place.invariant.put
    (subst (λ w. Puts (g.S.Sink.bytes c.loop-place.sink) c.loop-place.piece (g.S.Sink.bytes c.put-2.new.sink) c.put-2.new.self (w ∷ [])) c.loop-place.invariant.border put)))
    c.put-2.ensures.put

pub returns-in_err-put-clause-prefix : goal.returns-in_err-put-clause-prefix
returns-in_err-put-clause-prefix g c =
    on_err _ _ (some_next (row_start c.args.comp.now.rows) c.loop-place.place (length c.args.comp.now.cells + 1) _ (omega (arith, c.loop-place-test.true, ap length c.cells.ensures.cells))
    c.loop-place.invariant.border _ _ _ c.args.piece.now c.loop-place.piece c.loop-place.invariant.put c.in_err-put.ensures.prefix)

pub returns-clause-prefix : goal.returns-clause-prefix
returns-clause-prefix g c =
    let upto = c.loop-place.auto.place-end in
    on_err_then c.put-2.result _ _
    (λ some. some_next (row_start c.args.comp.now.rows) c.loop-place.place (length c.args.comp.now.cells + 1) _ (omega (arith, upto, ap length c.cells.ensures.cells))
    c.loop-place.invariant.border _ _ _ c.args.piece.now c.loop-place.piece c.loop-place.invariant.put some) c.put-2.ensures.prefix
