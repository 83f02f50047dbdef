use Rattle.build_pool.proofs.Connecting.{sources_in_order}
use Rattle.version_build.proofs.parts.Part.open.Goals as goal

pub rows-requires : goal.rows-requires
rows-requires c = rw c.deref.ensures.value (sources_in_order _ _ (record { same = c.in_ok-order.ensures.same; can = c.requires }))
