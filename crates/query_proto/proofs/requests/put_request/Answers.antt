use Rattle.std.proofs.Common.{[], refl, subst, sym}
use Rattle.query_proto.specs.Frames.{StandsAtFront, request_bytes}
use Rattle.query_proto.proofs.requests.put_request.Goals as goal

pub returns-in-Build-clause-frame : goal.returns-in-Build-clause-frame
returns-in-Build-clause-frame c =
    subst (λ r. StandsAtFront (request_bytes r) c.args.out.now c.put_byte.new.out c.put_byte.result) (sym c.in-Build.is)
    (c.put_byte.ensures.grows [] c.args.out.now (refl, refl))

pub returns-in-Status-clause-frame : goal.returns-in-Status-clause-frame
returns-in-Status-clause-frame c =
    subst (λ r. StandsAtFront (request_bytes r) c.args.out.now c.put_byte-in-Status.new.out c.put_byte-in-Status.result) (sym c.in-Status.is)
    (c.put_byte-in-Status.ensures.grows [] c.args.out.now (refl, refl))

pub returns-in-Bye-clause-frame : goal.returns-in-Bye-clause-frame
returns-in-Bye-clause-frame c =
    subst (λ r. StandsAtFront (request_bytes r) c.args.out.now c.put_byte-in-Bye.new.out c.put_byte-in-Bye.result) (sym c.in-Bye.is)
    (c.put_byte-in-Bye.ensures.grows [] c.args.out.now (refl, refl))

pub returns-in-Stop-clause-frame : goal.returns-in-Stop-clause-frame
returns-in-Stop-clause-frame c =
    subst (λ r. StandsAtFront (request_bytes r) c.args.out.now c.put_byte-in-Stop.new.out c.put_byte-in-Stop.result) (sym c.in-Stop.is)
    (c.put_byte-in-Stop.ensures.grows [] c.args.out.now (refl, refl))
