use Rattle.std.proofs.Common.{sym, ◌∙◌}
use Rattle.walk_rows.specs.declared.along.Route.{Route}
use Rattle.walk_rows.proofs.Descending.{reached, unreached}
use Rattle.walk_rows.proofs.Walking.{walk_is, walk_is_short}
use Rattle.walk_rows.proofs.walk_between.Goals as goal

pub walk_down-requires-clause-ahead : goal.walk_down-requires-clause-ahead
walk_down-requires-clause-ahead c =
    reached _ c.args.start c.args.goal _ c.from_source.ensures.searched c.in_ok-judge.ensures.ends.leaves.inside _ (sym c.cost.ensures ∙ c.in-Some.is)

pub returns-in-None-clause-walk : goal.returns-in-None-clause-walk
returns-in-None-clause-walk c = λ comps database.
    unreached _ c.args.start c.args.goal _ c.from_source.ensures.searched c.in_ok-judge.ensures.ends.leaves.inside (sym c.cost.ensures ∙ c.in-None.is)

pub returns-clause-walk : goal.returns-clause-walk
returns-clause-walk c =
    let route : Route = record { order = c.args.order; start = c.args.start; goal = c.args.goal } in
    walk_is _ route _ c.in_ok-moves-in-Some.ensures
    (reached _ c.args.start c.args.goal _ c.from_source.ensures.searched c.in_ok-judge.ensures.ends.leaves.inside _ (sym c.cost.ensures ∙ c.in-Some.is))

pub returns-clause-few : goal.returns-clause-few
returns-clause-few c =
    let route : Route = record { order = c.args.order; start = c.args.start; goal = c.args.goal } in
    walk_is_short _ route _ c.in_ok-moves-in-Some.ensures
    (reached _ c.args.start c.args.goal _ c.from_source.ensures.searched c.in_ok-judge.ensures.ends.leaves.inside _ (sym c.cost.ensures ∙ c.in-Some.is))
    (record { limits = c.width.ensures.limits; cells = c.width.ensures.whole }) c.requires.searchable
