use Rattle.std.proofs.Common.{subst}
use Rattle.path_image.specs.Walks.{IsNoCellBehind}
use Rattle.live_search.proofs.Reaching.{noted_nowhere, noted_now}
use Rattle.live_search.proofs.Stepwise.{goal_within}
use Rattle.live_search.proofs.expanding.is_noted.Goals as goal

pub returns-in-None-clause-notes : goal.returns-in-None-clause-notes
returns-in-None-clause-notes c =
    noted_nowhere c.args.live.now c.args.seek c.args.state.now c.args.state.now c.args.leg (goal_within c.args.live.now c.args.seek c.requires.sought) c.requires.place c.requires.to
    (subst (λ w. IsNoCellBehind w c.args.leg.cell c.args.leg.by) c.image.ensures.image c.in-None.ensures.none)

pub returns-in-Some-clause-notes : goal.returns-in-Some-clause-notes
returns-in-Some-clause-notes c =
    noted_now c.args.live.now c.args.seek c.args.state.now c.note.new.state c.args.leg (goal_within c.args.live.now c.args.seek c.requires.sought) c.requires.place c.requires.to
    c.in-Some.to c.note.result c.in-Some.ensures.target c.note.ensures.notes
