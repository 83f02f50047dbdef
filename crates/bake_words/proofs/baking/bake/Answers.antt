use Rattle.std.proofs.Common.{◌≤◌, length, refl, ◌∙◌, arith}
use Rattle.std.proofs.lemmas.List.{length-take-le}
use Rattle.bake_words.proofs.Baked.{baked, image_bytes_long}
use Rattle.bake_words.proofs.baking.bake.Goals as goal

pub put_words-requires : goal.put_words-requires
put_words-requires c =
    let long = image_bytes_long _ _ _ c.in_ok-version.ensures c.bytes.result.now (c.bytes.ensures ∙ c.in_ok-sink.ensures) in
    let front = length-take-le c.image_words-size.result c.args.room.now (omega (arith, c.if-size-room.false)) in
    omega (arith, long, front, c.image_words-size.ensures.size)

pub returns-clause-image : goal.returns-clause-image
returns-clause-image c =
    let inside : c.image_words-size.result ≤ length c.args.room.now = omega (arith, c.if-size-room.false) in
    let long = c.put_words.ensures.long ∙ length-take-le c.image_words-size.result c.args.room.now inside in
    baked _ _ _ c.in_ok-version.ensures c.bytes.result.now c.put_words.new.room c.args.room.now _ c.image_words-size.result
    (c.bytes.ensures ∙ c.in_ok-sink.ensures) c.image_words-size.ensures.size long
    (λ k less. c.put_words.ensures.words k (omega (arith, less, c.put_words.ensures.long))) inside refl
