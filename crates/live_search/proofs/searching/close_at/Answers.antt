use Rattle.live_search.proofs.Turning.{expand_keeps}
use Rattle.live_search.proofs.searching.close_at.Goals as goal

pub returns-then-expand-clause-turns : goal.returns-then-expand-clause-turns
returns-then-expand-clause-turns c =
    expand_keeps c.args.live.now c.args.seek c.args.state.now c.expand.new.state c.args.place c.expand.result c.requires.sought.first c.requires.known c.requires.reached
    c.expand.ensures.expands
