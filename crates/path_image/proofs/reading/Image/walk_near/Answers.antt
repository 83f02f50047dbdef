use Rattle.path_image.proofs.Homes.{begins_walk}
use Rattle.path_image.proofs.reading.Image.walk_near.Goals as goal

pub returns-clause-begins : goal.returns-clause-begins
returns-clause-begins c = λ version to image from there.
    begins_walk _ version image c.args.start to c.args.from c.args.goal.place c.args.run from there
