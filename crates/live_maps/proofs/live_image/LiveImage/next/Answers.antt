use Rattle.std.proofs.Common.{refl, sym, ◌∙◌, subst}
use Rattle.std.proofs.lemmas.Bool.{false≢true}
use Rattle.path_image.specs.declared.walking.Step.TheVariants.{Arrived, Go, Lost}
use Rattle.path_image.specs.Reading.{width_in}
use Rattle.path_image.specs.Strides.{GoesTo}
use Rattle.live_maps.proofs.Onward.{begins_at, clear_between, next_arrived, next_free, next_not_lost, next_stale, steps_over, told_apart}
use Rattle.live_maps.proofs.live_image.LiveImage.next.Goals as goal

pub returns-then-from-to-clause-next : goal.returns-then-from-to-clause-next
returns-then-from-to-clause-next c = λ version image.
    told_apart c.args.self.now version image c.args.at c.args.goal c.in-Ok.homes.0 c.in-Ok.homes.1 c.in-Ok.ensures.from c.in-Ok.ensures.to c.if-from-to.true

pub returns-in-Arrived-clause-next : goal.returns-in-Arrived-clause-next
returns-in-Arrived-clause-next c = λ version image.
    let begun = begins_at c.args.self.now version image c.args.at c.args.goal c.image.result c.in-Ok.homes.0 c.in-Ok.homes.1 c.walk-walk.result.walk c.image.ensures.image
    c.walk-walk.ensures.begins c.in-Ok.ensures.from c.in-Ok.ensures.to c.if-from-to.false in
    next_arrived c.args.self.now version image c.args.at c.args.goal c.walk-walk.result.walk begun c.step.new.self.walk
    (steps_over c.walk-walk.result.words c.args.self.now.words c.walk-walk.result.walk c.step.new.self.walk c.step.result Arrived
    (c.walk-walk.ensures.over ∙ c.image.ensures.image) c.in-Arrived.is c.step.ensures.step)

pub returns-in-Lost-clause-fault : goal.returns-in-Lost-clause-fault
returns-in-Lost-clause-fault c = λ version image.
    let begun = begins_at c.args.self.now version image c.args.at c.args.goal c.image.result c.in-Ok.homes.0 c.in-Ok.homes.1 c.walk-walk.result.walk c.image.ensures.image
    c.walk-walk.ensures.begins c.in-Ok.ensures.from c.in-Ok.ensures.to c.if-from-to.false in
    next_not_lost c.args.self.now version image c.args.at c.args.goal c.walk-walk.result.walk begun c.step.new.self.walk
    (steps_over c.walk-walk.result.words c.args.self.now.words c.walk-walk.result.walk c.step.new.self.walk c.step.result Lost
    (c.walk-walk.ensures.over ∙ c.image.ensures.image) c.in-Lost.is c.step.ensures.step)

pub returns-then-is_clear-clause-next : goal.returns-then-is_clear-clause-next
returns-then-is_clear-clause-next c = λ version image.
    let begun = begins_at c.args.self.now version image c.args.at c.args.goal c.image.result c.in-Ok.homes.0 c.in-Ok.homes.1 c.walk-walk.result.walk c.image.ensures.image
    c.walk-walk.ensures.begins c.in-Ok.ensures.from c.in-Ok.ensures.to c.if-from-to.false in
    let goes = subst (GoesTo c.walk-walk.result.walk c.step.new.self.walk) c.in-Go.is c.step.ensures.target in
    next_free c.args.self.now version image c.args.at c.args.goal c.walk-walk.result.walk begun c.step.new.self.walk c.in-Go.by
    (steps_over c.walk-walk.result.words c.args.self.now.words c.walk-walk.result.walk c.step.new.self.walk c.step.result (Go c.in-Go.by)
    (c.walk-walk.ensures.over ∙ c.image.ensures.image) c.in-Go.is c.step.ensures.step)
    goes.0 c.walk-walk.ensures.at c.in-Ok.ensures.clear
    (clear_between c.args.self.now.bits (width_in c.args.self.now.words) c.args.at c.args.at c.in-Go.by c.at.result c.step.new.self.walk.at refl c.at.ensures.at
    (c.is_clear.ensures.0 c.if-is_clear.true))

pub returns-else-is_clear-clause-next : goal.returns-else-is_clear-clause-next
returns-else-is_clear-clause-next c = λ version image.
    let begun = begins_at c.args.self.now version image c.args.at c.args.goal c.image.result c.in-Ok.homes.0 c.in-Ok.homes.1 c.walk-walk.result.walk c.image.ensures.image
    c.walk-walk.ensures.begins c.in-Ok.ensures.from c.in-Ok.ensures.to c.if-from-to.false in
    let goes = subst (GoesTo c.walk-walk.result.walk c.step.new.self.walk) c.in-Go.is c.step.ensures.target in
    next_stale c.args.self.now version image c.args.at c.args.goal c.walk-walk.result.walk begun c.step.new.self.walk c.in-Go.by
    (steps_over c.walk-walk.result.words c.args.self.now.words c.walk-walk.result.walk c.step.new.self.walk c.step.result (Go c.in-Go.by)
    (c.walk-walk.ensures.over ∙ c.image.ensures.image) c.in-Go.is c.step.ensures.step)
    goes.0 c.walk-walk.ensures.at
    (λ clear. false≢true (sym c.if-is_clear.false
    ∙ c.is_clear.ensures.1 (clear_between c.args.self.now.bits (width_in c.args.self.now.words) c.args.at c.args.at c.in-Go.by c.step.new.self.walk.at c.at.result refl (sym c.at.ensures.at) clear)))
