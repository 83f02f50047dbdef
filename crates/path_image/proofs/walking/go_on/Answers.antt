use Rattle.path_image.proofs.Homes.{inside_image}
use Rattle.path_image.proofs.Stepping.{stays, goes, entered}
use Rattle.path_image.proofs.Striding.{goes_to}
use Rattle.path_image.proofs.walking.go_on.Goals as goal

pub returns-then-walk-clause-step : goal.returns-then-walk-clause-step
returns-then-walk-clause-step c = λ version moves ahead. stays c.args.words.now version c.args.walk.now moves ahead c.if-walk.true

pub returns-in-None-clause-step : goal.returns-in-None-clause-step
returns-in-None-clause-step c = λ version moves ahead.
    let past = goes c.args.words.now version c.args.walk.now moves c.move_for-by.result ahead c.if-walk.false (c.move_for-by.ensures version ahead.image ahead.goal) in
    c.in-None.ensures.none past.2.to past.2.target (inside_image c.args.words.now version ahead.image past.2.to past.2.home.passable.inside)

pub returns-in-Some-clause-step : goal.returns-in-Some-clause-step
returns-in-Some-clause-step c = λ version moves ahead.
    entered c.args.words.now version c.args.walk.now c.enter.new.walk c.move_for-by.result c.in-Some.to c.enter.result moves ahead c.if-walk.false
    (c.move_for-by.ensures version ahead.image ahead.goal) c.in-Some.ensures.target c.enter.ensures.step

pub returns-in-Some-clause-target : goal.returns-in-Some-clause-target
returns-in-Some-clause-target c =
    goes_to c.args.words.now c.args.walk.now c.enter.new.walk c.move_for-by.result c.in-Some.to c.enter.result c.in-Some.ensures.target c.enter.ensures.step
