use Rattle.std.proofs.Common.{subst, sym}
use Rattle.path_image.specs.Answers.{IsHomeOf}
use Rattle.path_image.proofs.Homes.{apart, begins_walk}
use Rattle.path_image.proofs.walking.walk_from.Goals as goal

pub returns-then-home-to-clause-begins : goal.returns-then-home-to-clause-begins
returns-then-home-to-clause-begins c = λ version image.
    apart version image.of c.args.start c.args.goal _ _ _ _ (c.in_ok-home.ensures.from version image) (c.in_ok-home.ensures.to version image) c.if-home-to.true

pub returns-clause-begins : goal.returns-clause-begins
returns-clause-begins c = λ version image.
    let from = c.in_ok-home.ensures.from version image in
    let to = subst (λ label. IsHomeOf version c.args.goal label c.in_ok-home.to.place) (sym c.if-home-to.false) (c.in_ok-home.ensures.to version image) in
    begins_walk _ version image c.args.start c.args.goal c.in_ok-home.home c.in_ok-home.to.place c.first_guess.result from to
