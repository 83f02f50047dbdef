use Rattle.near_rows.proofs.Parts.{widened_packable}
use Rattle.near_rows.proofs.Filling.{put_here, put_other, part_put}
use Rattle.near_rows.proofs.building.put_source.Goals as goal

pub put-requires-clause-sets : goal.put-requires-clause-sets
put-requires-clause-sets c =
    widened_packable _ _ c.requires.ground.part _ _ _ c.requires.place c.requires.ground.few (c.widen.ensures.widened _ c.requires.first)

pub returns-clause-here : goal.returns-clause-here
returns-clause-here c =
    put_here _ _ _ _ _ _ _ c.requires.place c.requires.part c.in_ok-put.ensures (c.radius_of-radius.ensures _ c.requires.first) (c.widen.ensures.widened _ c.requires.first)

pub returns-clause-part : goal.returns-clause-part
returns-clause-part c =
    part_put _ _ _ _ _ _ _ c.requires.place c.requires.part c.in_ok-put.ensures (c.radius_of-radius.ensures _ c.requires.first) (c.widen.ensures.widened _ c.requires.first)

pub returns-clause-others : goal.returns-clause-others
returns-clause-others c =
    put_other _ _ _ _ _ _ _ c.requires.place c.requires.part c.in_ok-put.ensures (c.radius_of-radius.ensures _ c.requires.first) (c.widen.ensures.widened _ c.requires.first)
