-- A reply that a frame spells may be sent: its moves are those of the frame, which has no more than a path may have.
use Rattle.std.proofs.Common.{ℕ, ◌+◌, ◌≤◌, List, sym, subst, arith}
use Rattle.moves.proofs.CostsOfPaths.{moves_of_cost}
use Rattle.query_proto.specs.declared.TheConstants.{MAX_MOVES}
use Rattle.query_proto.specs.declared.replies.Reply.{Reply}
use Rattle.query_proto.specs.declared.replies.Reply.TheVariants as reply
use Rattle.query_proto.specs.Frames.{CanBeSent, IsReplyFrame}

pub can_be_sent : (told : Reply) (frame : List ℕ) → IsReplyFrame told frame → CanBeSent told
can_be_sent (reply.Path version cost) frame spells =
    subst (λ c. c.straight + c.diagonal ≤ MAX_MOVES) spells.1.0
    (subst (λ n. n ≤ MAX_MOVES) (sym (moves_of_cost spells.0)) spells.1.1)
can_be_sent (reply.Unreachable version) frame spells = omega arith
can_be_sent (reply.Refused version why) frame spells = omega arith
can_be_sent (reply.Accepted number) frame spells = omega arith
can_be_sent (reply.EditRefused why) frame spells = omega arith
can_be_sent (reply.Published prefix built kept) frame spells = omega arith
can_be_sent (reply.NothingNew prefix) frame spells = omega arith
can_be_sent (reply.Overtaken by) frame spells = omega arith
can_be_sent (reply.Status version accepted cells comps runs) frame spells = omega arith
can_be_sent reply.Done frame spells = omega arith
can_be_sent (reply.Malformed kind size) frame spells = omega arith
can_be_sent reply.NoMemory frame spells = omega arith
can_be_sent reply.Welcome frame spells = omega arith
