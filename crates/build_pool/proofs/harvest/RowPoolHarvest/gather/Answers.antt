use Rattle.build_pool.proofs.Filling.{packed_over}
use Rattle.build_pool.proofs.harvest.RowPoolHarvest.gather.Goals as goal

pub put_lanes-requires-clause-packed : goal.put_lanes-requires-clause-packed
put_lanes-requires-clause-packed c = λ lane l.
    rw c.in_ok-pack.ensures.sources (packed_over _ _ _ _ c.requires.table c.requires.solved c.in_ok-pack.ensures.rows lane l)
