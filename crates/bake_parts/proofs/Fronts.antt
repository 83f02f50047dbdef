-- Words at the front of a room.
use Rattle.std.proofs.Common.{ℕ, ◌+◌, List, [], ◌++◌, length, refl, sym, append_assoc, arith}
use Rattle.std.proofs.lemmas.List.{length-append}
use Rattle.bake_parts.specs.Rooms.{HasFront, GrowsFront}

-- nothing is written
pub front_none : (room : List ℕ) → HasFront room room []
front_none room = record { long = refl; there = λ fits. refl }

-- one behind the other
pub front_then : (at : ℕ) (old mid new a b : List ℕ) → GrowsFront at old mid a → GrowsFront (at + length a) mid new b → GrowsFront at old new (a ++ b)
front_then at old mid new a b first second before front long p =
    let both = length-append front a in
    let grown = second before (front ++ a) (omega arith) (first before front long p) in
    rw (sym (append_assoc front a b)) grown
