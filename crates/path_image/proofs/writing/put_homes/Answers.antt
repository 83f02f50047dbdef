use Rattle.std.proofs.Common.{◌≡◌, ◌*◌, ◌∷◌, [], ap, subst, ◌∙◌, arith}
use Rattle.moves.specs.Maps.{cell_at}
use Rattle.path_image.specs.Images.{home_word}
use Rattle.path_image.specs.Writing.{Puts}
use Rattle.path_image.proofs.Putting.{puts_next, some_next, on_err}
use Rattle.path_image.proofs.writing.put_homes.Goals as goal

pub loop-place-preserved : goal.loop-place-preserved
loop-place-preserved g c = record {
  put = puts_next (λ place. home_word 0 c.args.version.now.comps (cell_at c.args.version.now.map.width place)) c.loop-place.place
      (g.S.Sink.bytes c.args.sink.now) (g.S.Sink.bytes c.loop-place.sink) (g.S.Sink.bytes c.put.new.sink) c.args.piece.now c.loop-place.piece c.put.new.self
      c.loop-place.invariant.put
      (subst (λ w. Puts (g.S.Sink.bytes c.loop-place.sink) c.loop-place.piece (g.S.Sink.bytes c.put.new.sink) c.put.new.self (w ∷ [])) c.home_word.ensures c.in_ok-put.ensures.put);
  later = omega (arith, c.loop-place.invariant.later, c.in_ok-put.ensures.later);
}

pub returns-in_err-put-clause-prefix : goal.returns-in_err-put-clause-prefix
returns-in_err-put-clause-prefix g c =
    let map = c.args.version.now.map in
    let sides : c.width.result * c.height.result ≡ map.width * map.height =
    ap (λ n. n * c.height.result) (c.width.ensures.width ∙ ap (λ m. m.width) c.grid.ensures.map)
    ∙ ap (λ n. map.width * n) (c.height.ensures.height ∙ ap (λ m. m.height) c.grid-2.ensures.map) in
    on_err _ _ (some_next (λ place. home_word 0 c.args.version.now.comps (cell_at map.width place)) c.loop-place.place (map.width * map.height) _
    (omega (arith, sides, c.loop-place-test.true)) c.home_word.ensures _ _ _ c.args.piece.now c.loop-place.piece c.loop-place.invariant.put c.in_err-put.ensures.prefix)
