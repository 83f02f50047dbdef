use Rattle.std.proofs.Common.{ap, subst, ◌∙◌}
use Rattle.path_board.specs.Holding.{foundation_or}
use Rattle.path_board.specs.States.{IsCopied}
use Rattle.path_board.proofs.Answering.{answered, holds_at, met_lent, seen_lent}
use Rattle.path_board.proofs.Keeping.{handed, look_but}
use Rattle.path_board.proofs.shared.SharedBoard.look.Goals as goal

pub invariant_of-pass-clause-holds : goal.invariant_of-pass-clause-holds
invariant_of-pass-clause-holds g c = holds_at c.args.pass.now _ _ _ (ap foundation_or (c.end.ensures.same.base ∙ c.turn-turn.ensures.same.base))
    c.turn-turn.ensures.list (c.end.ensures.seen ∙ c.turn-turn.ensures.seen) _ _ c.args.pass.now.holds

pub hold-held-requires : goal.hold-held-requires
hold-held-requires g c = handed c.args.pass.now _ _ _ _ c.look-seen.ensures.state
    (met_lent c.args.pass.now _ _ c.state-state.ensures c.turn-turn.ensures.list c.turn-turn.ensures.base)
    (c.end.ensures.seen ∙ seen_lent _ _ _ c.state-state.ensures c.turn-turn.ensures.seen)
    (ap foundation_or (c.end.ensures.same.base ∙ c.turn-turn.ensures.same.base))
    (subst (λ k. IsCopied c.state-state.result.now.board k c.copy_unless-copied.result) (c.prefix-known.ensures ∙ ap (λ v. v.prefix) c.deref.ensures) c.copy_unless-copied.ensures)
    c.count-count.ensures

pub returns-clause-look : goal.returns-clause-look
returns-clause-look g c = answered c.args.pass.now c.hold-held.new.self c.state-state.result.now _ c.look-seen.ensures.state
    (met_lent c.args.pass.now _ _ c.state-state.ensures c.turn-turn.ensures.list c.turn-turn.ensures.base)
    (ap (λ s. s.me.0.seen) c.hold-held.ensures.seat ∙ c.end.ensures.seen ∙ seen_lent _ _ _ c.state-state.ensures c.turn-turn.ensures.seen)
    (look_but c.state-state.result.now.board c.look-seen.result c.hold-held.result c.look-seen.ensures.look)
