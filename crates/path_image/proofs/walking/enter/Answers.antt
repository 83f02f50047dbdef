use Rattle.path_image.proofs.Homes.{one_home}
use Rattle.path_image.proofs.walking.enter.Goals as goal

pub returns-in_default-clause-step : goal.returns-in_default-clause-step
returns-in_default-clause-step c = λ version image place home.
    c.if-home-walk.false (one_home version image.of c.args.to _ _ _ _ (c.in-Some.ensures.home version image) home)
