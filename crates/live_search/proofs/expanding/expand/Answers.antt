use Rattle.std.proofs.Common.{◌≡◌, sym, ap, subst, ◌∙◌, arith}
use Rattle.std.proofs.lemmas.Bool.{false≢true}
use Rattle.path_image.specs.Reading.{IsCellIn, cell_of_word}
use Rattle.path_image.proofs.Homes.{inside_image}
use Rattle.live_search.specs.Sound.{at}
use Rattle.live_search.specs.Steps.{IsLookedAt}
use Rattle.live_search.proofs.Reaching.{expands_again, expands_closed}
use Rattle.live_search.proofs.Stepwise.{goal_within}
use Rattle.live_search.proofs.expanding.expand.Goals as goal

pub returns-then-not-has-clause-expands : goal.returns-then-not-has-clause-expands
returns-then-not-has-clause-expands c = record {
  over = λ version start goal about sound known few.
      (let cell : c.cell_of-cell.result ≡ at c.args.state.now c.args.seek c.args.place = c.cell_of-cell.ensures ∙ ap cell_of_word c.cell_at.ensures in
      let inside = inside_image c.args.live.now.words version about.image (at c.args.state.now c.args.seek c.args.place) (sound.cells c.args.place c.requires.place known).passable.inside in
      absurd (false≢true (sym c.if-not-has.true
      ∙ c.has.ensures.1 (subst (λ w. IsCellIn w c.cell_of-cell.result) (sym c.image.ensures.image) (subst (IsCellIn c.args.live.now.words) (sym cell) inside)))));
}

pub returns-then-not-look_along-clause-expands : goal.returns-then-not-look_along-clause-expands
returns-then-not-look_along-clause-expands c = record {
  over = λ version start goal about sound known few.
      (let looks = c.look_along.ensures.looks.over c.args.state.now c.loop-number.invariant.1 c.requires.place (c.cell_of-cell.ensures ∙ ap cell_of_word c.cell_at.ensures)
      c.cost_at-cost.ensures c.look_round-near.ensures in
      absurd (false≢true (sym c.if-not-look_along.true ∙ looks.0 version start goal about sound known few)));
}

pub loop-number-preserved : goal.loop-number-preserved
loop-number-preserved c =
    let looks = c.look_along.ensures.looks.over c.args.state.now c.loop-number.invariant.1 c.requires.place (c.cell_of-cell.ensures ∙ ap cell_of_word c.cell_at.ensures)
    c.cost_at-cost.ensures c.look_round-near.ensures in
    (c.look_along.ensures.room, looks.1 c.if-not-look_along.false)

pub returns-then-cost_at-cost-clause-expands : goal.returns-then-cost_at-cost-clause-expands
returns-then-cost_at-cost-clause-expands c =
    let past = c.loop-number-test.false in
    let upto = c.loop-number.auto.number-end in
    let all : c.loop-number.number ≡ 8 = omega arith in
    let looked = subst (IsLookedAt c.args.live.now c.args.seek c.args.state.now c.loop-number.state c.args.place c.cell_of-cell.result c.cost_at-cost.result) all c.loop-number.invariant.1 in
    expands_closed c.args.live.now c.args.seek c.args.state.now c.loop-number.state c.args.place c.cell_of-cell.result c.cost_at-cost.result looked c.requires.place
    (goal_within c.args.live.now c.args.seek c.requires.sought) (c.cell_of-cell.ensures ∙ ap cell_of_word c.cell_at.ensures) c.close.new.state c.close.ensures.closes
    (sym c.cost_at.ensures ∙ c.if-cost_at-cost.true)

pub returns-else-cost_at-cost-clause-expands : goal.returns-else-cost_at-cost-clause-expands
returns-else-cost_at-cost-clause-expands c =
    let past = c.loop-number-test.false in
    let upto = c.loop-number.auto.number-end in
    let all : c.loop-number.number ≡ 8 = omega arith in
    let looked = subst (IsLookedAt c.args.live.now c.args.seek c.args.state.now c.loop-number.state c.args.place c.cell_of-cell.result c.cost_at-cost.result) all c.loop-number.invariant.1 in
    expands_again c.args.live.now c.args.seek c.args.state.now c.loop-number.state c.args.place c.cell_of-cell.result c.cost_at-cost.result looked c.requires.place
    (goal_within c.args.live.now c.args.seek c.requires.sought) (c.cell_of-cell.ensures ∙ ap cell_of_word c.cell_at.ensures)
