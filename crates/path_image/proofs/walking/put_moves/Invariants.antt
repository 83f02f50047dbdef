use Rattle.path_image.proofs.Following.{IsFollowed, ArePut}
use Rattle.path_image.proofs.walking.put_moves.Given as goal

abbrev pub invariant-loop : goal.invariant-loop
invariant-loop l = IsFollowed (ArePut l.fn.room l.room l.count) l.words l.fn.walk l.walk l.counter
