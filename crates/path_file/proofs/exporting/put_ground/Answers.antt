use Rattle.std.proofs.Common.{◌≡◌, ◌*◌, ap, sym, ◌∙◌, arith, length}
use Rattle.std.proofs.lemmas.List.{length-map}
use Rattle.path_file.specs.Files.{ground_bytes, terrain_byte}
use Rattle.path_file.proofs.PutLemmas.{bytes_more, bytes_refused, on_err}
use Rattle.path_file.proofs.exporting.put_ground.Goals as goal

pub returns-in_err-put_byte-clause-prefix : goal.returns-in_err-put_byte-clause-prefix
returns-in_err-put_byte-clause-prefix g c =
    let sides : c.width.result * c.height.result ≡ length c.args.grid.now.terrain =
    ap (λ n. n * c.height.result) c.width.ensures.width ∙ ap (λ n. c.args.grid.now.width * n) c.height.ensures.height ∙ sym c.width.ensures.whole in
    on_err _ _ (bytes_refused (ground_bytes c.args.grid.now.terrain) _ _ _ c.args.buffer.now c.loop-place.buffer c.loop-place.place c.loop-place.invariant.written
    (omega (arith, sides, c.loop-place-test.true, length-map c.args.grid.now.terrain terrain_byte))
    _ c.byte_at.ensures c.in_err-put_byte.ensures.prefix)

pub loop-place-preserved : goal.loop-place-preserved
loop-place-preserved g c =
    let sides : c.width.result * c.height.result ≡ length c.args.grid.now.terrain =
    ap (λ n. n * c.height.result) c.width.ensures.width ∙ ap (λ n. c.args.grid.now.width * n) c.height.ensures.height ∙ sym c.width.ensures.whole in
    record {
      written = bytes_more (ground_bytes c.args.grid.now.terrain) _ _ _ c.args.buffer.now c.loop-place.buffer c.loop-place.place c.loop-place.invariant.written
          (omega (arith, sides, c.loop-place-test.true, length-map c.args.grid.now.terrain terrain_byte))
          _ _ c.byte_at.ensures c.in_ok-put_byte.ensures.put;
      later = omega (arith, c.loop-place.invariant.later, c.in_ok-put_byte.ensures.later);
    }
