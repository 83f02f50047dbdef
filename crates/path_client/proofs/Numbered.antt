-- Bytes that are the numbers of moves.
use Rattle.std.proofs.Common.{ℕ, ◌<◌, List, length, get_or, inl, inr, arith}
use Rattle.std.proofs.lemmas.Bool.{cases_lt}
use Rattle.query_proto.proofs.SpelledMoves.{spelled_stuck}
use Rattle.path_client.specs.Asking.{AreNumbers}

-- each is below 8
pub number_low : (bytes : List ℕ) (place d : ℕ) → AreNumbers bytes → place < length bytes → get_or bytes place d < 8
number_low bytes place d p below = elim (cases_lt (get_or bytes place d) 8) [
  | inl low ↦ low
  | inr high ↦ absurd (spelled_stuck bytes place d below (omega arith) p.moves p.are)
]
