use Rattle.std.proofs.Common.{◌≡◌, ◌<◌, length, slice_index}
use Rattle.moves.specs.declared.Move.{Move}
use Rattle.moves.specs.Moves.{number_of}
use Rattle.live_search.specs.Steps.{IsPlaceBehind}
use Rattle.live_search.proofs.expanding.look_round.Given as goal

abbrev pub invariant-loop-number : goal.invariant-loop-number
invariant-loop-number l =
    (length l.near ≡ 8) × ((by : Move) → number_of by < l.number → IsPlaceBehind l.live l.seek l.cell by (slice_index l.near (number_of by)))
