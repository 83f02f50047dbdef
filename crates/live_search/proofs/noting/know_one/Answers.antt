use Rattle.std.proofs.Common.{◌/◌, refl, sym, ap, subst, ◌∙◌}
use Rattle.live_search.specs.State.{Knows, told_in}
use Rattle.live_search.specs.Steps.{told_before}
use Rattle.live_search.proofs.Stepwise.{steps_back, steps_known}
use Rattle.live_search.proofs.noting.know_one.Goals as goal

pub returns-then-mark_at-eq-UNKNOWN-clause-steps : goal.returns-then-mark_at-eq-UNKNOWN-clause-steps
returns-then-mark_at-eq-UNKNOWN-clause-steps c =
    steps_back c.args.seek c.args.state.now c.list.new.state c.know.new.state c.args.step c.args.next c.link_at-link.result c.told_before-told.result c.link_at-link.ensures
    c.requires.goal c.requires.next (c.told_before-told.ensures ∙ ap (λ t. told_before t c.link_at-link.result) c.told_at.ensures) c.if-place-seek.false
    (sym c.mark_at.ensures ∙ c.if-mark_at-eq-UNKNOWN.true) c.list.ensures.lists
    (subst (Knows c.args.seek.size c.list.new.state c.know.new.state (c.link_at-link.result / 16) c.told_before-told.result) c.link_cell_at-cell.ensures c.know.ensures.knows)

pub returns-else-mark_at-eq-UNKNOWN-clause-steps : goal.returns-else-mark_at-eq-UNKNOWN-clause-steps
returns-else-mark_at-eq-UNKNOWN-clause-steps c =
    steps_known c.args.seek c.args.state.now c.args.state.now c.args.state.now c.args.step c.args.next c.link_at-link.result
    (told_before (told_in c.args.state.now c.args.seek.size c.args.next) c.link_at-link.result) c.link_at-link.ensures c.requires.goal c.requires.next refl c.if-place-seek.false
    (λ e. c.if-mark_at-eq-UNKNOWN.false (c.mark_at.ensures ∙ e))
