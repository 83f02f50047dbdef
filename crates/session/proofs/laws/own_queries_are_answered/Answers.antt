use Rattle.session.proofs.Queried.{own_queries_are_answered}
use Rattle.session.proofs.laws.own_queries_are_answered.Goals as goal

pub returns : goal.returns
returns c = own_queries_are_answered
