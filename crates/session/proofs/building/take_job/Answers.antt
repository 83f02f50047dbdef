use Rattle.session.proofs.Holding.{not_true}
use Rattle.session.proofs.Builds.{look_none}
use Rattle.session.proofs.building.take_job.Goals as goal

pub returns-then-not-look-clause-none : goal.returns-then-not-look-clause-none
returns-then-not-look-clause-none g c =
    look_none _ _ c.look-look.result c.look-look.ensures.look (not_true c.look-look.result.held c.if-not-look.true)
