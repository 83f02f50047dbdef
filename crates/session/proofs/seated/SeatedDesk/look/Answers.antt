use Rattle.session.proofs.Seating.{seat_looks}
use Rattle.session.proofs.seated.SeatedDesk.look.Goals as goal

pub returns-clause-look : goal.returns-clause-look
returns-clause-look g c =
    seat_looks c.args.self.now.pass c.look.new.pass c.look.result c.look.ensures.same c.look.ensures.look c.look.ensures.held c.look.ensures.refused
