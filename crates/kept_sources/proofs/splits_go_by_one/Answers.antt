use Rattle.kept_sources.proofs.Splitting.{components_are_left_by_one, splits_go_by_one}
use Rattle.kept_sources.proofs.splits_go_by_one.Goals as goal

pub returns-clause-side : goal.returns-clause-side
returns-clause-side c = components_are_left_by_one

pub returns-clause-beyond : goal.returns-clause-beyond
returns-clause-beyond c = splits_go_by_one
