-- The list that a board stands for.
use Rattle.std.specs.Prelude.{◌<◌, ◌^◌, List, length, take}
use Rattle.std.proofs.Common.{arith}
use Rattle.std.proofs.lemmas.List.{length-take}
use Rattle.path_core.specs.declared.TheConstants.{MAX_ENTRIES}
use Rattle.path_core.specs.declared.entry.Entry.{Entry}

-- as much of a history as a board ever has, which of a board's is all
unfoldable pub listed : List Entry → List Entry
listed history = take MAX_ENTRIES history

pub listed_short : (history : List Entry) → length (listed history) < 2 ^ 63
unfolding listed
listed_short history = let is = length-take MAX_ENTRIES history in omega arith
