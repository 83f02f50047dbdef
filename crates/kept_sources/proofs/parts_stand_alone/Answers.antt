use Rattle.kept_sources.proofs.Splitting.{just_some_are_a_part, parts_stand_alone}
use Rattle.kept_sources.proofs.parts_stand_alone.Goals as goal

pub returns-clause-part : goal.returns-clause-part
returns-clause-part c = just_some_are_a_part

pub returns-clause-alone : goal.returns-clause-alone
returns-clause-alone c = parts_stand_alone
