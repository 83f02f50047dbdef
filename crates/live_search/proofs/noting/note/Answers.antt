use Rattle.std.proofs.Common.{subst}
use Rattle.path_image.specs.declared.reading.Home.{Home}
use Rattle.path_image.specs.Strides.{BeginsBetween}
use Rattle.live_search.specs.Steps.{Follows}
use Rattle.live_search.proofs.Stepwise.{goal_within, notes_all, notes_none}
use Rattle.live_search.proofs.noting.note.Goals as goal

pub returns-in-Some-clause-notes : goal.returns-in-Some-clause-notes
returns-in-Some-clause-notes c =
    let from : Home = record { label = c.args.seek.goal.label; place = c.args.place } in
    notes_all c.args.live.now c.args.seek c.args.state.now c.follow.new.state c.know_all.new.state c.args.cell c.args.place c.walk-walk.result.walk c.in-Some.followed
    c.walk-walk.ensures.at c.walk-walk.ensures.goal
    (subst (λ w. BeginsBetween w c.args.cell from c.args.seek.goal.place c.walk-walk.result.walk) c.image.ensures.image c.walk-walk.ensures.begins)
    (goal_within c.args.live.now c.args.seek c.requires.sought)
    (subst (Follows c.args.live.now c.args.seek c.args.state.now c.follow.new.state c.walk-walk.result.walk) c.in-Some.is c.follow.ensures.follows) c.know_all.ensures.knows

pub returns-in-None-clause-notes : goal.returns-in-None-clause-notes
returns-in-None-clause-notes c =
    let from : Home = record { label = c.args.seek.goal.label; place = c.args.place } in
    notes_none c.args.live.now c.args.seek c.args.state.now c.follow.new.state c.args.cell c.args.place c.walk-walk.result.walk c.walk-walk.ensures.goal
    (subst (λ w. BeginsBetween w c.args.cell from c.args.seek.goal.place c.walk-walk.result.walk) c.image.ensures.image c.walk-walk.ensures.begins)
    (subst (Follows c.args.live.now c.args.seek c.args.state.now c.follow.new.state c.walk-walk.result.walk) c.in-None.is c.follow.ensures.follows)
