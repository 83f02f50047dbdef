use Rattle.live_maps.proofs.Free.{cost_is_bound, joins_are_baked}
use Rattle.live_maps.proofs.laws.baked_costs_are_bounds.Goals as goal

pub returns-clause-costs : goal.returns-clause-costs
returns-clause-costs c = cost_is_bound

pub returns-clause-joins : goal.returns-clause-joins
returns-clause-joins c = joins_are_baked
