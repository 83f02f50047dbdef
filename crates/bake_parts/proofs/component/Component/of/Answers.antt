use Rattle.build_pool.proofs.Connecting.{sources_in_order}
use Rattle.bake_parts.proofs.component.Component.of.Goals as goal

pub of-requires : goal.of-requires
of-requires c =
    let from = sources_in_order _ _ (record { same = c.in_ok-cells.ensures.same; can = c.requires }) in
    rw c.deref.ensures.value from.numbered

pub invariant_of-result : goal.invariant_of-result
invariant_of-result c = record {
  sources = sources_in_order _ _ (record { same = c.in_ok-cells.ensures.same; can = c.requires });
  edges = rw c.deref.ensures.value at c.in_ok-near.ensures.near;
  pairs = c.in_ok-near.ensures.pairs;
}
