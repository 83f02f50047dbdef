use Rattle.std.proofs.Common.{◌∙◌}
use Rattle.live_search.proofs.Stepwise.{notes_known}
use Rattle.live_search.proofs.noting.make_known.Goals as goal

pub returns-then-mark_at-ne-UNKNOWN-clause-notes : goal.returns-then-mark_at-ne-UNKNOWN-clause-notes
returns-then-mark_at-ne-UNKNOWN-clause-notes c =
    notes_known c.args.live.now c.args.seek c.args.state.now c.args.cell c.args.place (λ e. c.if-mark_at-ne-UNKNOWN.true (c.mark_at.ensures ∙ e))
