use Rattle.path_image.proofs.Following.{IsFollowed, CostIs}
use Rattle.path_image.proofs.walking.cost_ahead.Given as goal

abbrev pub invariant-loop : goal.invariant-loop
invariant-loop l = IsFollowed (CostIs l.cost) l.words l.fn.walk l.walk l.counter
