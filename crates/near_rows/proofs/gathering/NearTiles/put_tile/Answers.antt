use Rattle.std.proofs.Common.{length, ap, ◌∙◌, arith}
use Rattle.std.proofs.lemmas.List.{with_items_is}
use Rattle.near_rows.specs.Lanes.{source_in}
use Rattle.near_rows.proofs.Gathered.{have_near_rows}
use Rattle.near_rows.proofs.gathering.NearTiles.put_tile.Goals as goal

pub radii_of-radii-requires : goal.radii_of-radii-requires
radii_of-radii-requires c = ap length c.sets-sets.ensures ∙ c.requires.first.size

pub widen_all-requires-clause-sets : goal.widen_all-requires-clause-sets
widen_all-requires-clause-sets c = ap length c.sets-sets.ensures ∙ c.requires.first.size

pub put_lanes-requires-clause-rows : goal.put_lanes-requires-clause-rows
put_lanes-requires-clause-rows c =
    let items = c.deref.ensures.value ∙ with_items_is c.self.inside.wide c.widen_all.new.wide (omega (arith, c.widen_all.ensures.whole, c.as_mut_slice.ensures.len)) in
    let packed = rw items at c.in_ok-pack_lanes.ensures.packed in
    have_near_rows _ _ (source_in c.sources_of-sources.result.columns c.sources_of-sources.result.rows) _ _ c.widen_all.new.wide _ c.requires.first c.sets-sets.ensures c.radii_of-radii.ensures.bytes
    c.sources_of-sources.ensures c.radii_of-radii.ensures.radius c.widen_all.ensures.widened packed
