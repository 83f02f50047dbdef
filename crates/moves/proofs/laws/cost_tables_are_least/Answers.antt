use Rattle.moves.proofs.TableLaws.{tables_are_least}
use Rattle.moves.proofs.laws.cost_tables_are_least.Goals as goal

pub returns : goal.returns
returns c = tables_are_least
