use Rattle.std.proofs.Common.{[], refl, subst, sym}
use Rattle.query_proto.specs.Frames.{StandsAtFront, head_bytes, status_front}
use Rattle.query_proto.proofs.replies.put_reply.Goals as goal

pub returns-in-Status-clause-head : goal.returns-in-Status-clause-head
returns-in-Status-clause-head c =
    subst (λ r. StandsAtFront (head_bytes r) c.args.out.now c.put_long.new.out c.put_long.result) (sym c.in-Status.is)
    (c.put_long.ensures.grows (status_front c.in-Status.version c.in-Status.accepted c.in-Status.cells c.in-Status.comps) c.args.out.now c.put_status-at.ensures.front)

pub returns-in-Done-clause-head : goal.returns-in-Done-clause-head
returns-in-Done-clause-head c =
    subst (λ r. StandsAtFront (head_bytes r) c.args.out.now c.put_byte.new.out c.put_byte.result) (sym c.in-Done.is)
    (c.put_byte.ensures.grows [] c.args.out.now (refl, refl))

pub returns-in-NoMemory-clause-head : goal.returns-in-NoMemory-clause-head
returns-in-NoMemory-clause-head c =
    subst (λ r. StandsAtFront (head_bytes r) c.args.out.now c.put_byte-in-NoMemory.new.out c.put_byte-in-NoMemory.result) (sym c.in-NoMemory.is)
    (c.put_byte-in-NoMemory.ensures.grows [] c.args.out.now (refl, refl))
