use Rattle.std.proofs.Common.{sym, ap, ◌∙◌, subst, set}
use Rattle.std.proofs.lemmas.Bool.{false≢true}
use Rattle.path_image.specs.declared.walking.Step.TheVariants.{Arrived, Go, Lost}
use Rattle.path_image.specs.Reading.{width_in}
use Rattle.path_image.specs.Strides.{GoesTo}
use Rattle.live_maps.proofs.Along.{told_front, told_more, told_never_lost, told_none, told_whole}
use Rattle.live_maps.proofs.Onward.{clear_between, steps_over}
use Rattle.live_maps.proofs.live_image.put_free.Goals as goal

pub loop-init : goal.loop-init
loop-init c = (c.requires, told_none c.args.live.now c.args.walk.now.walk c.args.room.now)

pub returns-in-Arrived : goal.returns-in-Arrived
returns-in-Arrived c =
    told_whole c.args.live.now c.args.walk.now.walk c.loop.walk.walk c.args.room.now c.loop.room c.loop.count c.loop.counter c.loop.invariant.1 c.step.new.self.walk
    (steps_over c.loop.walk.words c.args.live.now.words c.loop.walk.walk c.step.new.self.walk c.step.result Arrived c.loop.invariant.0 c.in-Arrived.is c.step.ensures.step)

pub returns-then-not-is_clear : goal.returns-then-not-is_clear
returns-then-not-is_clear c =
    let goes = subst (GoesTo c.loop.walk.walk c.step.new.self.walk) c.in-Go.is c.step.ensures.target in
    told_front c.args.live.now c.args.walk.now.walk c.loop.walk.walk c.args.room.now c.loop.room c.loop.count c.loop.counter c.loop.invariant.1 c.step.new.self.walk c.in-Go.by
    (steps_over c.loop.walk.words c.args.live.now.words c.loop.walk.walk c.step.new.self.walk c.step.result (Go c.in-Go.by) c.loop.invariant.0 c.in-Go.is c.step.ensures.step)
    goes.0
    (λ clear. false≢true (sym c.if-not-is_clear.true
    ∙ c.is_clear.ensures.1 (clear_between c.args.live.now.bits (width_in c.args.live.now.words) c.loop.walk.walk.at c.at-from.result c.in-Go.by c.step.new.self.walk.at c.at.result
    (sym c.at-from.ensures.at) (sym c.at.ensures.at) clear)))

pub returns-in-Lost : goal.returns-in-Lost
returns-in-Lost c = λ version moves ahead clear.
    told_never_lost c.args.live.now c.args.walk.now.walk c.loop.walk.walk c.args.room.now c.loop.room c.loop.count c.loop.counter c.loop.invariant.1 c.step.new.self.walk
    (steps_over c.loop.walk.words c.args.live.now.words c.loop.walk.walk c.step.new.self.walk c.step.result Lost c.loop.invariant.0 c.in-Lost.is c.step.ensures.step)
    version moves ahead

pub loop-preserved : goal.loop-preserved
loop-preserved c =
    let goes = subst (GoesTo c.loop.walk.walk c.step.new.self.walk) c.in-Go.is c.step.ensures.target in (
      c.step.ensures.words ∙ c.loop.invariant.0,
      told_more c.args.live.now c.args.walk.now.walk c.loop.walk.walk c.args.room.now c.loop.room c.loop.count c.loop.counter c.loop.invariant.1 c.step.new.self.walk c.in-Go.by
          c.put.new.room
          (steps_over c.loop.walk.words c.args.live.now.words c.loop.walk.walk c.step.new.self.walk c.step.result (Go c.in-Go.by) c.loop.invariant.0 c.in-Go.is c.step.ensures.step)
          goes.0
          (clear_between c.args.live.now.bits (width_in c.args.live.now.words) c.at-from.result c.loop.walk.walk.at c.in-Go.by c.at.result c.step.new.self.walk.at
          c.at-from.ensures.at c.at.ensures.at (c.is_clear.ensures.0 c.if-not-is_clear.false))
          (c.put.ensures ∙ ap (set c.loop.room c.loop.count) c.number.ensures.number),
    )
