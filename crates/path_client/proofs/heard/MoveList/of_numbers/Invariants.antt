use Rattle.std.proofs.Common.{◌≡◌, map, take}
use Rattle.moves.specs.Moves.{number_of}
use Rattle.path_client.proofs.heard.MoveList.of_numbers.Given as goal

abbrev pub invariant-loop-number : goal.invariant-loop-number
invariant-loop-number l = map number_of l.moves.items ≡ take l.number-index l.numbers
