use Rattle.std.proofs.Common.{Err, ap, inr, refl}
use Rattle.path_commands.specs.Serving.{ear_over}
use Rattle.path_commands.specs.Asks.{house_over}
use Rattle.path_commands.proofs.ServingLemmas.{opens_none}
use Rattle.path_commands.proofs.serving.serve_on.Goals as goal

pub returns-in-Err-clause-ends : goal.returns-in-Err-clause-ends
returns-in-Err-clause-ends g c = inr (opens_none
    (house_over g.H.Door.Door.at g.H.Conn.Link.at (g.H.House.at c.args.house.now) (g.H.House.at c.doors.new.self))
    (ear_over (g.E.Ear.at c.args.ear.now) (g.E.Ear.at c.args.ear.now))
    c.in-Err.error c.from.result c.put_cause.result _ _ (λ same. c.in-Err.ensures.cause (ap Err same)) c.from.ensures (ap (λ house. house.lent) c.in-Err.ensures.none.rest)
    (record { rung = refl; unshut = c.requires.waiting }) c.put_cause.ensures.put)
