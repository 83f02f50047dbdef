use Rattle.std.proofs.Common.{◌≡◌, ◌*◌, ◌∷◌, [], length, sym, subst, ap, ◌∙◌, arith}
use Rattle.wire.proofs.Counting.{writes_on}
use Rattle.moves.specs.declared.Terrain.TheVariants.{Blocked}
use Rattle.feed_node.specs.Sending.{SendsSome}
use Rattle.feed_node.proofs.Writing.{bytes_of_cells, each_more, each_refused, on_err, one_byte}
use Rattle.feed_node.proofs.sending.put_ground.Goals as goal

pub returns-in_err-put_bytes-clause-prefix : goal.returns-in_err-put_bytes-clause-prefix
returns-in_err-put_bytes-clause-prefix g c =
    let sides : c.width.result * c.height.result ≡ length c.args.grid.now.terrain =
    ap (λ n. n * c.height.result) c.width.ensures.width ∙ ap (λ n. c.args.grid.now.width * n) c.height.ensures.height ∙ sym c.width.ensures.whole in
    on_err c.from_residual.result _
    (subst (SendsSome (g.L.Link.at c.args.link.now).talk (g.L.Link.at c.put_bytes.new.link).talk c.args.parcel.now) (bytes_of_cells c.args.grid.now.terrain)
    (each_refused one_byte c.args.grid.now.terrain Blocked _ _ _ _ _ c.loop-place.place c.loop-place.invariant.written (omega (arith, sides, c.loop-place-test.true))
    (c.byte_at.result ∷ []) (ap (λ b. b ∷ []) c.byte_at.ensures) c.in_err-put_bytes.ensures.prefix))

pub loop-place-preserved : goal.loop-place-preserved
loop-place-preserved g c =
    let sides : c.width.result * c.height.result ≡ length c.args.grid.now.terrain =
    ap (λ n. n * c.height.result) c.width.ensures.width ∙ ap (λ n. c.args.grid.now.width * n) c.height.ensures.height ∙ sym c.width.ensures.whole in
    record {
      written = each_more one_byte c.args.grid.now.terrain Blocked _ _ _ _ _ c.loop-place.place c.loop-place.invariant.written (omega (arith, sides, c.loop-place-test.true))
          _ (c.byte_at.result ∷ []) (ap (λ b. b ∷ []) c.byte_at.ensures) c.in_ok-put_bytes.ensures.put;
      counts = writes_on _ _ _ c.loop-place.invariant.counts c.in_ok-put_bytes.ensures.counts;
    }
