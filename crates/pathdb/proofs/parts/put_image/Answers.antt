use Rattle.std.proofs.Common.{rules}
use Rattle.pathdb.proofs.Joined.{joined}
use Rattle.pathdb.proofs.parts.put_image.Goals as goal

pub returns-in-Ok-try_from : goal.returns-in-Ok-try_from
returns-in-Ok-try_from c =
    joined c.args.bake.now c.args.parts.now c.args.words.now c.join.new.room c.in-Ok.count _ c.requires c.in-Ok.ensures.fits c.in-Ok.ensures.image (search rules)
