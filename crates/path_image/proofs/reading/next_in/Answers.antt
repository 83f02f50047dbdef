use Rattle.std.proofs.Common.{subst, sym, rules}
use Rattle.versions.specs.Databases.{comp_at}
use Rattle.versions.specs.Spelled.{IsKept}
use Rattle.versions.proofs.Homes.{goes_on}
use Rattle.path_image.specs.Answers.{IsHomeOf}
use Rattle.path_image.proofs.Homes.{apart, home_for}
use Rattle.path_image.proofs.reading.next_in.Goals as goal

pub returns-then-from-to-clause-next : goal.returns-then-from-to-clause-next
returns-then-from-to-clause-next c = λ version image.
    apart version image.of c.args.at c.args.goal _ _ _ _ (c.in_ok-from.ensures.from version image) (c.in_ok-from.ensures.to version image) c.if-from-to.true

pub returns-clause-next : goal.returns-clause-next
returns-clause-next c = λ version image.
    let from = c.in_ok-from.ensures.from version image in
    let to = subst (λ label. IsHomeOf version c.args.goal label c.in_ok-from.to.place) (sym c.if-from-to.false) (c.in_ok-from.ensures.to version image) in
    let kept : IsKept (comp_at version.comps c.in_ok-from.from.label).cells (comp_at version.comps c.in_ok-from.from.label).rows c.args.at c.args.goal c.move_at.result = record { source = c.in_ok-from.from.place; column = c.in_ok-from.to.place; leaves = from.there; arrives = to.there; covers = c.move_at.ensures version image to.there.within } in
    goes_on version.map version.order version.comps image.of.database c.args.at c.args.goal (comp_at version.comps c.in_ok-from.from.label) c.move_at.result (search rules)
    (home_for version image.of c.args.at c.args.goal c.in_ok-from.from.label c.in_ok-from.from.place c.in_ok-from.to.place from to) kept
