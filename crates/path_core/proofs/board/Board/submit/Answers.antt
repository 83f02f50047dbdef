use Rattle.std.proofs.Common.{◌∙◌, ap, length}
use Rattle.std.specs.Arc.{arc_value}
use Rattle.path_core.specs.declared.entry.Entry.TheVariants.{Accept}
use Rattle.path_core.specs.Boards.{board_of, with_entry}
use Rattle.path_core.proofs.BoardSteps.{submit_history, submit_kept}
use Rattle.path_core.proofs.board.Board.submit.Goals as goal

pub invariant_of-self-2 : goal.invariant_of-self-2
invariant_of-self-2 c = submit_kept _ _ _ _ _ _ _ _ _ _ _ _ _ _ _ _ _ _ _ _ c.self.invariant c.len.ensures c.in_ok-check.ensures.accepted
    c.apply.ensures c.len-place.ensures c.reserve.ensures.items c.push_reserved-2.ensures.items c.in_ok-reserve_one.ensures.edits
    c.in_ok-reserve_one.ensures.room c.push_reserved.ensures c.reserve.ensures.capacity c.push_reserved-2.ensures.capacity

pub returns-clause-entered : goal.returns-clause-entered
returns-clause-entered c =
    let history = submit_history c.self.inside.edits _ _ _ _ _ _ _ _ c.self.invariant.placed c.len-place.ensures c.reserve.ensures.items
    c.push_reserved-2.ensures.items c.in_ok-reserve_one.ensures.edits c.push_reserved.ensures in
    ap (λ h. board_of c.self.inside.start h (arc_value c.self.inside.version) c.self.inside.room) history
    ∙ ap (λ b. with_entry b (Accept c.args.pass c.args.edit)) c.self.view_is

pub returns-clause-count : goal.returns-clause-count
returns-clause-count c =
    let kept = submit_kept _ _ _ _ _ _ _ _ _ _ _ _ _ _ _ _ _ _ _ _ c.self.invariant c.len.ensures c.in_ok-check.ensures.accepted
    c.apply.ensures c.len-place.ensures c.reserve.ensures.items c.push_reserved-2.ensures.items c.in_ok-reserve_one.ensures.edits
    c.in_ok-reserve_one.ensures.room c.push_reserved.ensures c.reserve.ensures.capacity c.push_reserved-2.ensures.capacity in
    c.len-2.ensures ∙ ap length kept.accepted
