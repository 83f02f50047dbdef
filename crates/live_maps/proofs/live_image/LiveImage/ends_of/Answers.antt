use Rattle.live_maps.proofs.Along.{passable_clear}
use Rattle.live_maps.proofs.Refusing.{goal_refused, start_refused}
use Rattle.live_maps.proofs.live_image.LiveImage.ends_of.Goals as goal

pub returns-in-Err-clause-refused : goal.returns-in-Err-clause-refused
returns-in-Err-clause-refused c = λ version image.
    start_refused c.args.self.now version image c.args.start c.args.goal c.in-Err.why (c.in-Err.ensures.refused version image)

pub returns-in-Err-home_of-clause-refused : goal.returns-in-Err-home_of-clause-refused
returns-in-Err-home_of-clause-refused c = λ version image.
    goal_refused c.args.self.now version image c.args.start c.args.goal c.in-Err-home_of.why
    (passable_clear c.args.self.now version image c.args.start (c.in-Ok.ensures.home version image).passable c.in-Ok.ensures.clear)
    (c.in-Err-home_of.ensures.refused version image)

pub returns-in-Ok-home_of-clause-ends : goal.returns-in-Ok-home_of-clause-ends
returns-in-Ok-home_of-clause-ends c = λ version image. record {
  leaves = passable_clear c.args.self.now version image c.args.start (c.in-Ok.ensures.home version image).passable c.in-Ok.ensures.clear;
  arrives = passable_clear c.args.self.now version image c.args.goal (c.in-Ok-home_of.ensures.home version image).passable c.in-Ok-home_of.ensures.clear;
}
