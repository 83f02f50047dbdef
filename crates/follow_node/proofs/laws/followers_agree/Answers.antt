use Rattle.follow_node.proofs.Agreeing.{followers_agree, followers_agree_short}
use Rattle.follow_node.proofs.laws.followers_agree.Goals as goal

pub returns-clause-all : goal.returns-clause-all
returns-clause-all c = followers_agree

pub returns-clause-short : goal.returns-clause-short
returns-clause-short c = followers_agree_short
