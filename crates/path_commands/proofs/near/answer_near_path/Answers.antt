use Rattle.std.proofs.Common.{subst}
use Rattle.moves.specs.Paths.{IsLeastCost}
use Rattle.near_rows.specs.NearWalks.{IsBegun}
use Rattle.path_commands.proofs.NearTelling.{tells_near_walk, few_straight, few_diagonal}
use Rattle.path_commands.proofs.near.answer_near_path.Goals as goal

pub near_path_text-requires-clause-straight : goal.near_path_text-requires-clause-straight
near_path_text-requires-clause-straight c =
    let begins = subst (λ found. IsBegun c.args.near.now c.args.start c.args.goal found) c.in-Some.is c.in_ok-start.ensures.walk in
    few_straight c.args.near.now c.args.start c.args.goal c.in-Some.walk begins c.unwrap-cost.result
    (subst (λ cost. IsLeastCost c.args.near.now.version.map c.args.start c.args.goal cost) c.unwrap-cost.ensures c.in_ok-measure-in-Some.ensures.cost)

pub near_path_text-requires-clause-diagonal : goal.near_path_text-requires-clause-diagonal
near_path_text-requires-clause-diagonal c =
    let begins = subst (λ found. IsBegun c.args.near.now c.args.start c.args.goal found) c.in-Some.is c.in_ok-start.ensures.walk in
    few_diagonal c.args.near.now c.args.start c.args.goal c.in-Some.walk begins c.unwrap-cost.result
    (subst (λ cost. IsLeastCost c.args.near.now.version.map c.args.start c.args.goal cost) c.unwrap-cost.ensures c.in_ok-measure-in-Some.ensures.cost)

pub returns-in_ok-near_path_text-in-Some-clause-done : goal.returns-in_ok-near_path_text-in-Some-clause-done
returns-in_ok-near_path_text-in-Some-clause-done c =
    let begins = subst (λ found. IsBegun c.args.near.now c.args.start c.args.goal found) c.in-Some.is c.in_ok-start.ensures.walk in
    tells_near_walk c.args.near.now c.args.start c.args.goal c.in-Some.walk begins c.unwrap-cost.result
    (subst (λ cost. IsLeastCost c.args.near.now.version.map c.args.start c.args.goal cost) c.unwrap-cost.ensures c.in_ok-measure-in-Some.ensures.cost)
    _ c.version.ensures.near c.in_ok-start.ensures.ends c.in_ok-near_path_text-in-Some.ensures
