use Rattle.std.proofs.Common.{subst, string_bytes}
use Rattle.near_rows.specs.NearWalks.{Advances}
use Rattle.path_commands.proofs.NearTelling.{near_told_more}
use Rattle.path_commands.proofs.near.push_near_moves.Goals as goal

pub loop-preserved : goal.loop-preserved
loop-preserved c =
    near_told_more _ _ _ _ _ c.loop.invariant c.step.new.self (string_bytes c.write.new.self) c.in-Some.by
    (subst (Advances c.loop.walk c.step.new.self) c.in-Some.is c.step.ensures) c.in_ok-write-in-Some.ensures.bytes
