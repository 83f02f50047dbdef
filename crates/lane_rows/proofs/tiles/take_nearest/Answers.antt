use Rattle.lane_rows.proofs.Taking.{taking_first, taking_next, taking_inside}
use Rattle.lane_rows.proofs.tiles.take_nearest.Goals as goal
use Rattle.lane_rows.proofs.tiles.take_nearest.Goals.{then-is_wanted, else-is_wanted}

pub loop-place-init : goal.loop-place-init
loop-place-init c = taking_first _ _ _ c.requires.inside c.requires.first c.give_up.ensures

pub loop-place-preserved : goal.loop-place-preserved
loop-place-preserved c = elim c.if-is_wanted.branch [
  | then-is_wanted w ↦ rw (w.wanted-is, w.sources-is, w.count-is) (taking_next _ _ _ _ _ _ c.loop-place.invariant c.if-count-eq-LANES.false (c.is_wanted.ensures w.if-is_wanted.true) w.give_up-then-is_wanted.ensures)
  | else-is_wanted w ↦ rw (w.wanted-is, w.sources-is, w.count-is) c.loop-place.invariant
]

pub returns-after-loop-place-clause-sources : goal.returns-after-loop-place-clause-sources
returns-after-loop-place-clause-sources c = taking_inside _ _ _ _ c.loop-place.invariant

pub returns-then-count-eq-LANES-clause-sources : goal.returns-then-count-eq-LANES-clause-sources
returns-then-count-eq-LANES-clause-sources c = taking_inside _ _ _ _ c.loop-place.invariant
