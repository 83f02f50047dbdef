use Rattle.std.proofs.Common.{subst}
use Rattle.walk_rows.specs.Walks.{IsWalkOf}
use Rattle.path_commands.proofs.Telling.{tells_none, tells_walk}
use Rattle.path_commands.proofs.path.answer_path.Goals as goal

pub returns-in_ok-unreachable_text-in-None-clause-done :
    goal.returns-in_ok-unreachable_text-in-None-clause-done
returns-in_ok-unreachable_text-in-None-clause-done c =
    let none = subst (λ found. IsWalkOf c.args.grid.now c.args.order c.args.start c.args.goal found) c.in-None.is c.in_ok-walk_between.ensures.walk in
    tells_none c.args.grid.now c.args.order c.args.start c.args.goal _ c.in_ok-walk_between.ensures.ends none c.in_ok-unreachable_text-in-None.ensures

pub returns-in_ok-path_of-in-Some-clause-done : goal.returns-in_ok-path_of-in-Some-clause-done
returns-in_ok-path_of-in-Some-clause-done c =
    let walk = subst (λ found. IsWalkOf c.args.grid.now c.args.order c.args.start c.args.goal found) c.in-Some.is c.in_ok-walk_between.ensures.walk in
    let cost = rw c.deref.ensures.value at c.cost_of.ensures.cost in
    let told = rw c.deref-in-Some.ensures.value at c.in_ok-path_of-in-Some.ensures in
    tells_walk c.args.grid.now c.args.order c.args.start c.args.goal c.in-Some.moves _ _ c.in_ok-walk_between.ensures.ends walk cost told
