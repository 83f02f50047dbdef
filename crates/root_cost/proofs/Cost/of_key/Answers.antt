use Rattle.std.proofs.Common.{rules, subst}
use Rattle.root_cost.specs.Keys.{cost_if_key, cost_of_key, diagonal_of, GivesBack}
use Rattle.root_cost.proofs.Keys.{given_back}
use Rattle.root_cost.proofs.Cost.of_key.Goals as goal

pub returns-clause-back : goal.returns-clause-back
unfolding cost_if_key cost_of_key diagonal_of
returns-clause-back c = λ low. subst (GivesBack c.args.key) (search rules) (given_back c.args.key low)
