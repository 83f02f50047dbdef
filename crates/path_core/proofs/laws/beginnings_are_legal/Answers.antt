use Rattle.path_core.proofs.LegalHistories.{beginnings_are_legal}
use Rattle.path_core.proofs.laws.beginnings_are_legal.Goals as goal

pub returns : goal.returns
returns c = beginnings_are_legal
