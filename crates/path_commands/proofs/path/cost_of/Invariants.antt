use Rattle.std.proofs.Common.{◌≡◌, take}
use Rattle.moves.specs.Paths.{cost_of}
use Rattle.path_commands.proofs.path.cost_of.Given as goal

-- the cost of the moves so far
abbrev pub invariant-loop-by : goal.invariant-loop-by
invariant-loop-by l = l.cost ≡ cost_of (take l.by-index l.moves)
