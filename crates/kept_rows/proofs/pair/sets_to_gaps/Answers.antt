use Rattle.kept_rows.proofs.Gaps.{gap_small}
use Rattle.kept_rows.proofs.Surveying.{lanes_of_gaps}
use Rattle.kept_rows.proofs.pair.sets_to_gaps.Goals as goal

pub gap_lanes-lanes-requires-clause-inside : goal.gap_lanes-lanes-requires-clause-inside
gap_lanes-lanes-requires-clause-inside c = gap_small _ _ _ c.requires.can.cells c.requires.can.over_whole.numbered.few

pub search-requires-clause-inside : goal.search-requires-clause-inside
search-requires-clause-inside c = (lanes_of_gaps _ _ _ c.requires.can.cells _ c.gap_lanes-lanes.ensures.same c.gap_lanes-lanes.ensures.others).inside

pub sets_of_lanes-requires-clause-lanes : goal.sets_of_lanes-requires-clause-lanes
sets_of_lanes-requires-clause-lanes c =
    rw (c.search.ensures.cells, c.search.ensures.sources) (lanes_of_gaps _ _ _ c.requires.can.cells _ c.gap_lanes-lanes.ensures.same c.gap_lanes-lanes.ensures.others)
