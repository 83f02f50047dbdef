use Rattle.near_rows.proofs.Gathered.{ground_sources}
use Rattle.near_rows.proofs.building.near_rows_of.Goals as goal

pub gather_alone-requires-clause-table : goal.gather_alone-requires-clause-table
gather_alone-requires-clause-table c κs = record {
  sources = ground_sources _ _ c.requires c.width.ensures.limits;
  edges = c.in_ok-beside.ensures.near;
  pairs = c.in_ok-beside.ensures.pairs;
}
