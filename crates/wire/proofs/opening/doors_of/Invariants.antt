use Rattle.std.proofs.Common.{◌≡◌, ◌-◌, ◌≤◌, All, vec_len, vec_capacity}
use Rattle.wire.proofs.opening.doors_of.Given as goal

abbrev pub invariant-loop-doors : goal.invariant-loop-doors
invariant-loop-doors g l = record {
  within : vec_len l.doors ≤ l.count;
  room : l.count ≤ vec_capacity l.doors;
  no_fault : All (λ door. door.faults ≡ 0) l.doors.items;
}

abbrev pub decreases-loop-doors : goal.decreases-loop-doors
decreases-loop-doors g l = l.count - vec_len l.doors
