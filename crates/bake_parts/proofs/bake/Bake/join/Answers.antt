use Rattle.std.proofs.Common.{arith}
use Rattle.bake_parts.proofs.Heading.{image_there}
use Rattle.bake_parts.proofs.bake.Bake.join.Goals as goal

pub returns-clause-image : goal.returns-clause-image
returns-clause-image c =
    let fits = c.if-size-room.false in
    λ version first are.
    let long = c.in_ok-size.ensures.size version first are in
    image_there version c.in_ok-size.size c.args.room.now c.put_image.new.room first.is long (omega arith) (c.in_ok-put_image.ensures.image version first are long)
