use Rattle.session.proofs.Seating.{seat_enters}
use Rattle.session.proofs.seated.SeatedDesk.submit.Goals as goal

pub returns-clause-entered : goal.returns-clause-entered
returns-clause-entered g c =
    seat_enters c.args.self.now.pass c.submit.new.pass c.args.edit c.in_ok-accepted.accepted c.in_ok-accepted.ensures.entered
    c.in_ok-accepted.ensures.count
