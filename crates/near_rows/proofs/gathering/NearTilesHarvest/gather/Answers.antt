use Rattle.near_rows.proofs.Gathered.{have_first_sets}
use Rattle.near_rows.proofs.gathering.NearTilesHarvest.gather.Goals as goal

pub put_tile-requires-clause-first : goal.put_tile-requires-clause-first
put_tile-requires-clause-first c =
    have_first_sets _ _ _ _ c.requires.table c.requires.solved c.requires.sources c.complete.ensures.count c.complete.ensures.sources c.complete.ensures.completed
