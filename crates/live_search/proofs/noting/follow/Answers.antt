use Rattle.std.proofs.Common.{◌≡◌, Some, sym, ap, subst, ◌∙◌}
use Rattle.path_image.specs.declared.walking.Step.TheVariants.{Arrived, Go, Lost}
use Rattle.path_image.specs.Images.{cell_word}
use Rattle.path_image.specs.Reading.{cell_of_word, width_in}
use Rattle.path_image.specs.Strides.{GoesTo}
use Rattle.live_maps.proofs.Onward.{clear_between, steps_over}
use Rattle.live_search.specs.State.{PutsLink, mark_in}
use Rattle.live_search.specs.Steps.{Follows, link_of}
use Rattle.live_search.proofs.Stepwise.{ahead_few, following_found, following_more, following_not_long, following_not_lost, following_not_there, goal_within, home_within, word_gives}
use Rattle.live_search.proofs.noting.follow.Goals as goal

pub returns-then-mark_at-ne-UNKNOWN-clause-follows : goal.returns-then-mark_at-ne-UNKNOWN-clause-follows
returns-then-mark_at-ne-UNKNOWN-clause-follows c =
    let place = ap (λ h. h.place) c.home-known.ensures.home in
    subst (λ p. Follows c.args.live.now c.args.seek c.args.state.now c.loop-steps.state c.args.walk.now.walk (Some (record { steps = c.loop-steps.steps; known = p })))
    (sym place)
    (following_found c.args.live.now c.args.seek c.args.state.now c.loop-steps.state c.args.walk.now.walk c.loop-steps.walk.walk c.loop-steps.steps c.loop-steps.invariant.2
    (λ e. c.if-mark_at-ne-UNKNOWN.true (c.mark_at.ensures ∙ ap (mark_in c.loop-steps.state) place ∙ e)))

pub loop-steps-preserved : goal.loop-steps-preserved
loop-steps-preserved c =
    let place = ap (λ h. h.place) c.home-known.ensures.home in
    let here = c.loop-steps.walk.walk in
    let goes = subst (GoesTo here c.step.new.self.walk) c.in-Go.is c.step.ensures.target in
    let back =
    subst (λ x. cell_of_word (cell_word x) ≡ x) c.at-from.ensures.at
    (word_gives c.word_of.result c.at-from.result c.word_of.ensures.word c.word_of.ensures.column c.word_of.ensures.row) in
    let puts =
    subst (λ w. PutsLink c.args.seek.size c.loop-steps.state c.put_link.new.state c.loop-steps.steps (link_of here.home.place c.in-Go.by c.is_clear.result) w)
    (c.word_of.ensures.word ∙ ap cell_word c.at-from.ensures.at)
    (subst (λ l. PutsLink c.args.seek.size c.loop-steps.state c.put_link.new.state c.loop-steps.steps l c.word_of.result)
    (c.link_of-link.ensures ∙ ap (λ p. link_of p c.in-Go.by c.is_clear.result) place) c.put_link.ensures.puts) in (
      c.step.ensures.words ∙ c.loop-steps.invariant.0,
      c.put_link.ensures.room,
      following_more c.args.live.now c.args.seek c.args.state.now c.loop-steps.state c.put_link.new.state c.args.walk.now.walk here c.step.new.self.walk c.loop-steps.steps
          c.loop-steps.invariant.2 c.loop-steps-test.true c.in-Go.by c.is_clear.result
          (steps_over c.loop-steps.walk.words c.args.live.now.words here c.step.new.self.walk c.step.result (Go c.in-Go.by) c.loop-steps.invariant.0 c.in-Go.is c.step.ensures.step)
          goes.0 goes.1 c.step.ensures.label
          (home_within c.args.live.now c.args.seek c.loop-steps.walk.words here c.home-known.result c.requires.sought c.loop-steps.invariant.0 c.home-known.ensures.home
          c.loop-steps.invariant.2.label c.home-known.ensures.stands)
          back
          (λ e. clear_between c.args.live.now.bits (width_in c.args.live.now.words) c.at-from.result here.at c.in-Go.by c.at.result c.step.new.self.walk.at c.at-from.ensures.at
          c.at.ensures.at (c.is_clear.ensures.0 e))
          puts,
    )

pub returns-clause-follows : goal.returns-clause-follows
returns-clause-follows c =
    following_not_long c.args.live.now c.args.seek c.args.state.now c.loop-steps.state c.args.walk.now.walk c.loop-steps.walk.walk c.loop-steps.steps c.loop-steps.invariant.2
    c.loop-steps-test.false (ahead_few c.args.live.now c.args.seek c.args.walk.now.walk c.requires.label c.requires.sought.size)

pub returns-in-Arrived-clause-follows : goal.returns-in-Arrived-clause-follows
returns-in-Arrived-clause-follows c =
    let place = ap (λ h. h.place) c.home-known.ensures.home in
    following_not_there c.args.live.now c.args.seek c.args.state.now c.loop-steps.state c.args.walk.now.walk c.loop-steps.walk.walk c.loop-steps.steps c.loop-steps.invariant.2
    c.step.new.self.walk
    (steps_over c.loop-steps.walk.words c.args.live.now.words c.loop-steps.walk.walk c.step.new.self.walk c.step.result Arrived c.loop-steps.invariant.0 c.in-Arrived.is c.step.ensures.step)
    (sym (ap (mark_in c.loop-steps.state) place) ∙ sym c.mark_at.ensures ∙ c.if-mark_at-ne-UNKNOWN.false) (goal_within c.args.live.now c.args.seek c.requires.sought)

pub returns-in-Lost-clause-follows : goal.returns-in-Lost-clause-follows
returns-in-Lost-clause-follows c =
    following_not_lost c.args.live.now c.args.seek c.args.state.now c.loop-steps.state c.args.walk.now.walk c.loop-steps.walk.walk c.loop-steps.steps c.loop-steps.invariant.2
    c.step.new.self.walk
    (steps_over c.loop-steps.walk.words c.args.live.now.words c.loop-steps.walk.walk c.step.new.self.walk c.step.result Lost c.loop-steps.invariant.0 c.in-Lost.is c.step.ensures.step)
