use Rattle.session.proofs.Seating.{lone_enters}
use Rattle.session.proofs.lone.LoneDesk.submit.Goals as goal

pub returns-clause-entered : goal.returns-clause-entered
returns-clause-entered g c =
    lone_enters c.args.self.now.pass c.args.self.now.board c.submit.new.self c.args.edit c.submit.result c.submit.ensures.may
    c.submit.ensures.entered c.submit.ensures.count
