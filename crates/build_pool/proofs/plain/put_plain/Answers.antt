use Rattle.std.proofs.Common.{arith}
use Rattle.build_pool.proofs.Connecting.{packable}
use Rattle.build_pool.proofs.Filling.{done_put, first_over}
use Rattle.build_pool.proofs.plain.put_plain.Goals as goal

pub put_sets-requires-clause-sets : goal.put_sets-requires-clause-sets
put_sets-requires-clause-sets c =
    rw c.sets.ensures (packable _ _ c.requires.board.component _ _ (omega (arith, c.requires.place, c.requires.inside)) c.requires.board.few c.in_ok-find.ensures.first)

pub returns-clause-done : goal.returns-clause-done
returns-clause-done c =
    done_put _ _ _ _ _ c.requires.done c.requires.place (first_over _ _ _ _ c.requires.board.just c.in_ok-find.ensures.first) (rw c.sets.ensures at c.in_ok-put_sets.ensures.ok)
