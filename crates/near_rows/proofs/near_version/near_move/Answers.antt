use Rattle.near_rows.proofs.NearMoves.{looked_up_is_near}
use Rattle.near_rows.proofs.near_version.near_move.Goals as goal

pub returns-clause-is : goal.returns-clause-is
returns-clause-is g c =
    looked_up_is_near c.requires.near.0 _ _ c.requires.near.1 _ _ _ _ _ c.place_of-place.ensures c.place_of-column.ensures c.move_between.ensures.is
