use Rattle.moves.proofs.ComponentLaws.{components_are_of_one_class, components_stay_components, components_keep_moves, components_keep_best_paths, components_keep_costs, components_keep_first_sets}
use Rattle.moves.proofs.laws.components_keep_paths.Goals as goal

pub returns-clause-class : goal.returns-clause-class
returns-clause-class c = components_are_of_one_class

pub returns-clause-component : goal.returns-clause-component
returns-clause-component c = components_stay_components

pub returns-clause-moves : goal.returns-clause-moves
returns-clause-moves c = components_keep_moves

pub returns-clause-best : goal.returns-clause-best
returns-clause-best c = components_keep_best_paths

pub returns-clause-costs : goal.returns-clause-costs
returns-clause-costs c = components_keep_costs

pub returns-clause-first : goal.returns-clause-first
returns-clause-first c = components_keep_first_sets
