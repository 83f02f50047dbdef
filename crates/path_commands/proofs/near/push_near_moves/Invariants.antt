use Rattle.std.proofs.Common.{string_bytes}
use Rattle.path_commands.proofs.NearTelling.{IsNearTold}
use Rattle.path_commands.proofs.near.push_near_moves.Given as goal

-- the moves so far are written
abbrev pub invariant-loop : goal.invariant-loop
invariant-loop l = IsNearTold l.fn.walk l.walk (string_bytes l.fn.text) (string_bytes l.text) l.counter
