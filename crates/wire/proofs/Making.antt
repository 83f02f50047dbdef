-- Links and doors as they were made, one after another.
use Rattle.std.proofs.Common.{ℕ, List, [], ◌∷◌, ◌++◌}
use Rattle.std.proofs.lemmas.List.Elements.{All-push}
use Rattle.wire.specs.DoorInMemory.{DoorInMemory, AreNewLinks, IsNewLink}
use Rattle.wire.specs.HouseInMemory.{AreNewDoors, IsNewDoor}
use Rattle.wire.specs.LinkInMemory.{LinkInMemory}

-- one link more
pub new_links_push : (links : List LinkInMemory) (link : LinkInMemory) → AreNewLinks links → IsNewLink link → AreNewLinks (links ++ link ∷ [])
new_links_push links link = All-push IsNewLink links link

-- one door more
pub new_doors_push : (doors : List (ℕ × DoorInMemory)) (door : ℕ × DoorInMemory) → AreNewDoors doors → IsNewDoor door.1 → AreNewDoors (doors ++ door ∷ [])
new_doors_push doors door = All-push (λ (one : ℕ × DoorInMemory). IsNewDoor one.1) doors door
