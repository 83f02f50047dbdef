use Rattle.edit_log.proofs.EditedMaps.{next_inside}
use Rattle.edit_log.proofs.edit.make.Goals as goal

pub set_terrain-requires : goal.set_terrain-requires
set_terrain-requires c = next_inside _ _ _ _ _ c.loop-change.invariant c.loop-change-test.true
