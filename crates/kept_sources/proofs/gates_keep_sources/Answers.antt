use Rattle.kept_sources.proofs.Gating.{gates_keep_sides}
use Rattle.kept_sources.proofs.Onward.{paths_pass_gates, gates_give_the_rest, even_costs_give_one_first_set}
use Rattle.kept_sources.proofs.gates_keep_sources.Goals as goal

pub returns-clause-passed : goal.returns-clause-passed
returns-clause-passed c = paths_pass_gates

pub returns-clause-side : goal.returns-clause-side
returns-clause-side c = gates_keep_sides

pub returns-clause-beyond : goal.returns-clause-beyond
returns-clause-beyond c = gates_give_the_rest

pub returns-clause-even : goal.returns-clause-even
returns-clause-even c = even_costs_give_one_first_set
