use Rattle.std.proofs.Common.{arith}
use Rattle.std.proofs.lemmas.List.Elements.{All-tail}
use Rattle.wire.specs.DoorInMemory.{IsNewLink}
use Rattle.wire.proofs.mem_door.MemDoorDoor.knock.Goals as goal

pub invariant_of-self-in-Some : goal.invariant_of-self-in-Some
invariant_of-self-in-Some c =
    (All-tail IsNewLink _ _ (rw c.in-Some.ensures.items at c.self.invariant.0), omega (arith, c.in-Some.ensures.len, c.self.invariant.1))
