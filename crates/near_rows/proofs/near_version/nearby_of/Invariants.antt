use Rattle.near_rows.proofs.NearWalking.{AreNearTo}
use Rattle.near_rows.proofs.near_version.nearby_of.Given as goal

abbrev pub invariant-loop-comp : goal.invariant-loop-comp
invariant-loop-comp l = AreNearTo l.version l.nearby.items l.comp-index
