use Rattle.std.proofs.Common.{◌≡◌, ◌+◌, ◌-◌, ◌≤◌, vec_len, vec_capacity}
use Rattle.wire.specs.HouseInMemory.{AreGivenDoors, AreGone, AreNewDoors, first_at}
use Rattle.wire.proofs.mem_house.take_all_at.Given as goal

abbrev pub invariant-loop-doors : goal.invariant-loop-doors
invariant-loop-doors l = record {
  within : vec_len l.given ≤ l.count;
  room : l.count ≤ vec_capacity l.given;
  given : l.given.items ≡ first_at l.port (vec_len l.given) l.fn.doors.items;
  gone : AreGone l.port (vec_len l.given) l.fn.doors.items l.doors.items;
  len : vec_len l.doors + vec_len l.given ≡ vec_len l.fn.doors;
  new : AreGivenDoors l.port l.given.items;
  made : AreNewDoors l.doors.items;
}

abbrev pub decreases-loop-doors : goal.decreases-loop-doors
decreases-loop-doors l = l.count - vec_len l.given
