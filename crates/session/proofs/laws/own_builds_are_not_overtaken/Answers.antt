use Rattle.session.proofs.Concluding.{own_builds_are_not_overtaken}
use Rattle.session.proofs.laws.own_builds_are_not_overtaken.Goals as goal

pub returns : goal.returns
returns c = own_builds_are_not_overtaken
